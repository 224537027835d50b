use Rattle.std.proofs.Common.{◌≡◌, ◌+◌, ◌*◌, ◌≤◌, ◌++◌, length, take}
use Rattle.printout.specs.Record.{rows_text}
use Rattle.printout.specs.Sheets.{pairs_at}
use Rattle.printout.proofs.sheet.FirstSheet.push_place.Given as goal

-- the lines of the rows before index have been written
abbrev pub invariant-loop-index : goal.invariant-loop-index
invariant-loop-index l =
    (length l.output.bytes ≤ length l.initial.output.bytes + 48 * l.index) ×
    (l.output.bytes ≡ l.initial.output.bytes ++ rows_text (take l.index (pairs_at l.self l.place)))
