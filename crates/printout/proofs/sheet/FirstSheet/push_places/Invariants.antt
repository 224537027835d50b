use Rattle.std.proofs.Common.{◌≡◌, ◌+◌, ◌*◌, ◌≤◌, ◌++◌, length}
use Rattle.trips.specs.Pages.{all_rows}
use Rattle.printout.specs.Record.{by_load, places_text, by_time}
use Rattle.printout.specs.Sheets.{pairs_at}
use Rattle.printout.proofs.sheet.FirstSheet.push_places.Given as goal

-- the lines of the places before this one have been written
abbrev pub invariant-loop-place : goal.invariant-loop-place
invariant-loop-place l =
    (length l.output.bytes ≤ length l.initial.output.bytes + 48 * (l.place + all_rows by_time by_load (pairs_at l.self) l.place)) ×
    (l.output.bytes ≡ l.initial.output.bytes ++ places_text (pairs_at l.self) l.place)
