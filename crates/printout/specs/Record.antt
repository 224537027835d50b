-- The whole record of a road file: each place with the rows of its page, or the refusal.
use Rattle.std.specs.Prelude.{◌≡◌, ℕ, zero, suc, ◌<◌, ◌≤◌, false, ◌⊎◌, List, [], ◌∷◌, ◌++◌, length, replicate, Some, None, Ok, Err, Option, Result}
use Rattle.criteria.specs.Limit.{limit_meaning}
use Rattle.criteria.specs.Meaning.{Meaning}
use Rattle.criteria.specs.Sum.{sum_meaning}
use Rattle.criteria.specs.declared.limit.LimitValue.{LimitValue}
use Rattle.criteria.specs.declared.limit.LimitValue.TheVariants.{Unlimited, Mark}
use Rattle.criteria.specs.declared.sum.SumValue.{SumValue}
use Rattle.roads.specs.declared.network.Network.{Network}
use Rattle.roads.specs.declared.road.Road.{Road}
use Rattle.roadfile.specs.declared.fault.LoadFault.{LoadFault}
use Rattle.roadfile.specs.Loading.{Loaded}
use Rattle.sweep.specs.Sweeps.{plan_of, Crowded}
use Rattle.trips.specs.Pages.{Pages, Rows, all_rows}
use Rattle.lines.specs.declared.line.Line.TheVariants as line
use Rattle.lines.specs.Text.{text}
use Rattle.lines.specs.Written.{Written}
use Rattle.report.specs.Reading.{refusal_line}
use Rattle.report.specs.declared.refusal.Refusal.TheVariants.{TooLong, Fault}
use Rattle.printout.specs.Faults.{text_told}
use Rattle.printout.specs.declared.fault.RecordFault.{RecordFault}

-- a row as it is printed: its time and its limit
abbrev pub Pair : Type 0
Pair = SumValue × LimitValue

-- the limit, where there is one
abbrev pub limit_of : LimitValue → Option ℕ
limit_of Unlimited = None
limit_of (Mark limit) = Some limit

-- the line of a row
abbrev pub row_text : Pair → List ℕ
row_text p = text (line.Row p.0.total (limit_of p.1))

-- the lines of rows
abbrev pub rows_text : List Pair → List ℕ
rows_text [] = []
rows_text (p ∷ pairs) = row_text p ++ rows_text pairs

-- the lines of a place: how many rows it has, and each of them
abbrev pub place_text : ℕ → List Pair → List ℕ
place_text place pairs = text (line.Place place (length pairs)) ++ rows_text pairs

-- the lines of the first n places
abbrev pub places_text : (ℕ → List Pair) → ℕ → List ℕ
places_text pages zero = []
places_text pages (suc n) = places_text pages n ++ place_text n (pages n)

-- the record's first criterion: the sum of mark 0
abbrev pub by_time : Meaning SumValue
by_time = sum_meaning 0

-- and its second: the limit by mark 2
abbrev pub by_load : Meaning LimitValue
by_load = limit_meaning 2

-- the sweep from place 0 has at most 1,024 rows, and the text has the lines of every place, with its page
pub record Listed (n : Network) (roads : List Road) (out : List ℕ) : Type 0 where
  pub pages : ℕ → List Pair
  pub each : Pages by_time by_load (plan_of by_time by_load n roads 0) n.places pages
  pub room : all_rows by_time by_load pages n.places ≤ 1024
  pub lines : out ≡ places_text pages n.places

-- the sweep from place 0 has more than 1,024 rows, and the text is the refusal for want of room
pub record CrowdedOut (n : Network) (roads : List Road) (out : List ℕ) : Type 0 where
  pub crowded : Crowded by_time by_load n roads 0 1024
  pub more : (m : ℕ) → Rows by_time by_load n.places (plan_of by_time by_load n roads 0) m → 1024 < m
  pub line : out ≡ text (line.Refused 18 0)

-- the text for what a loading answered, where it left the road table so
abbrev pub Answered : Result Network LoadFault → List Road → List ℕ → Type 0
Answered (Ok n) roads out = Listed n roads out ⊎ CrowdedOut n roads out
Answered (Err f) roads out = out ≡ text (refusal_line (Fault f))

-- an entry of the record's road table before a file is loaded
abbrev pub blank : Road
blank = record { start = 0; end = 0; marks = replicate 4 0; «open» = false }

-- the text is that of a loading of the file over a table of 1,024 such entries
pub record Loads (file out : List ℕ) : Type 0 where
  pub after : List Road
  pub answer : Result Network LoadFault
  pub loaded : Loaded file (replicate 1024 blank) answer after
  pub answered : Answered answer after out

-- the text that a road file comes to: a file above 65,536 bytes is refused by 21 before it is read
abbrev pub Says : List ℕ → List ℕ → Type 0
Says file out = ((65536 < length file) × (out ≡ text (refusal_line TooLong))) ⊎ ((length file ≤ 65536) × Loads file out)

-- the lines of every place, which stand there, or the line of a fault, are the text for what a loading answered
abbrev pub Noted : Result Network LoadFault → List Road → Result (Unit {0}) RecordFault → List ℕ → Type 0
Noted answer roads told out = Answered answer roads (text_told told out)

-- the table holds the record of the file
pub record Told (file table : List ℕ) (n : ℕ) : Type 0 where
  pub out : List ℕ
  pub says : Says file out
  pub written : Written 147456 out n table

-- a file has one record: one text and one length
abbrev pub OneRecord : Type 0
OneRecord = (file t u : List ℕ) (m n : ℕ) → Told file t m → Told file u n → (t ≡ u) × (m ≡ n)
