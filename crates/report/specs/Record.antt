use Rattle.std.specs.Prelude.{◌≡◌, ℕ, ◌<◌, ◌≤◌, ◌⊎◌, List, length, Ok, Err, Result}
use Rattle.roads.specs.declared.network.Network.{Network}
use Rattle.roads.specs.declared.road.Road.{Road}
use Rattle.roadfile.specs.declared.fault.LoadFault.{LoadFault}
use Rattle.roadfile.specs.Loading.{Loaded}
use Rattle.lines.specs.declared.line.Line.{Line}
use Rattle.lines.specs.declared.line.Line.TheVariants as line
use Rattle.lines.specs.Text.{text}
use Rattle.lines.specs.Written.{Written}
use Rattle.report.specs.Reading.{refusal_line}
use Rattle.report.specs.declared.refusal.Refusal.TheVariants.{TooLong, Fault}

-- the line for what a loading answers
abbrev pub line_of : Result Network LoadFault → Line
line_of (Ok n) = line.Loaded n.places n.roads
line_of (Err f) = refusal_line (Fault f)

-- the line is that of a loading of the file over a table of 1,024 roads
pub record Loads (file : List ℕ) (l : Line) : Type 0 where
  pub table : List Road
  pub after : List Road
  pub answer : Result Network LoadFault
  pub room : length table ≡ 1024
  pub loaded : Loaded file table answer after
  pub line : l ≡ line_of answer

-- the line that a road file comes to: a file above 65,536 bytes is refused by 21 before it is read
abbrev pub Says : List ℕ → Line → Type 0
Says file l = ((65536 < length file) × (l ≡ refusal_line TooLong)) ⊎ ((length file ≤ 65536) × Loads file l)

-- the table holds the record of the file in its first n bytes, and zeros behind it
pub record Told (file table : List ℕ) (n : ℕ) : Type 0 where
  pub line : Line
  pub says : Says file line
  pub written : Written 48 (text line) n table
