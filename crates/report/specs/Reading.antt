-- What the reading of a road file comes to.
use Rattle.std.specs.Prelude.{◌≡◌, ℕ, ◌<◌, ◌≤◌, List, length, Ok, Err, Result}
use Rattle.lines.specs.declared.line.Line.{Line}
use Rattle.lines.specs.declared.line.Line.TheVariants as line
use Rattle.roads.specs.declared.network.Network.{Network}
use Rattle.roads.specs.declared.road.Road.{Road}
use Rattle.roadfile.specs.Faults.{file_number}
use Rattle.roadfile.specs.Loading.{Loaded}
use Rattle.report.specs.declared.refusal.Refusal.{Refusal}
use Rattle.report.specs.declared.refusal.Refusal.TheVariants.{TooLong, Fault}

-- the line of a refusal: a file that is too long is 21
abbrev pub refusal_line : Refusal → Line
refusal_line TooLong = line.Refused 21 0
refusal_line (Fault f) = line.Refused (file_number f.fault) f.offset

-- what there is for a file over the table, where its reading leaves the table so: a file above 65,536 bytes is refused before it is read,
-- and leaves the table as it was
abbrev pub NetworkOf : List ℕ → List Road → List Road → Result Network Refusal → Type 0
NetworkOf file table after (Ok n) = (length file ≤ 65536) × Loaded file table (Ok n) after
NetworkOf file table after (Err TooLong) = (65536 < length file) × (after ≡ table)
NetworkOf file table after (Err (Fault f)) = (length file ≤ 65536) × Loaded file table (Err f) after
