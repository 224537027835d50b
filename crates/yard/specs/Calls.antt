-- What the calls on the yard answer.
use Rattle.std.specs.Prelude.{◌≡◌, ℕ, ◌<◌, ◌≤◌, cond, List, length, Ok, Err, Result, nat_lt, slice_index_or}
use Rattle.book.specs.Reading.{Serving, count_of, pairs_there}
use Rattle.book.specs.declared.added.Added.{Added}
use Rattle.book.specs.declared.book.Book.{Book}
use Rattle.book.specs.declared.fault.PlannerFault.{PlannerFault}
use Rattle.book.specs.declared.fault.PlannerFault.TheVariants.{NoSuchPlace, NoSuchRow, RowsFull}
use Rattle.criteria.specs.Limit.{limit_meaning}
use Rattle.criteria.specs.Meaning.{Meaning}
use Rattle.criteria.specs.Sum.{sum_meaning}
use Rattle.criteria.specs.declared.limit.Limit.{Limit}
use Rattle.criteria.specs.declared.limit.LimitValue.{LimitValue}
use Rattle.criteria.specs.declared.sum.Sum.{Sum}
use Rattle.criteria.specs.declared.sum.SumValue.{SumValue}
use Rattle.roads.specs.declared.road.Road.{Road}
use Rattle.rows.specs.declared.row.Row.{Row}
use Rattle.yard.specs.Building.{Built}
use Rattle.yard.specs.Table.{timed, listed}

-- what the first criterion of a book by Sum and Limit means
abbrev pub by_time : Book Sum Limit → Meaning SumValue
by_time k = sum_meaning k.first.column.index

-- what the second one means
abbrev pub by_load : Book Sum Limit → Meaning LimitValue
by_load k = limit_meaning k.second.column.index

-- a book on the yard by Sum of mark 0 and Limit of mark 2
pub record OnYard (k : Book Sum Limit) (table : List Road) : Type 0 where
  pub built : Built k.network table
  pub first : k.first.column.index ≡ 0
  pub second : k.second.column.index ≡ 2

-- such a book without a sheet
pub record Opened (k : Book Sum Limit) (table : List Road) : Type 0 where
  pub on : OnYard k table
  pub count : count_of k ≡ 0
  pub used : k.used ≡ 0

-- a book whose sheet 0 lists the pages of the sweep from place 0 of the yard, in a row table that serves it
pub record Listing (k : Book Sum Limit) (rows : List (Row SumValue LimitValue)) : Type 0 where
  pub places : k.network.places ≡ 4
  pub count : count_of k ≡ 1
  pub serving : Serving (by_time k) (by_load k) k rows
  pub lists : (p : ℕ) → pairs_there k rows 0 p ≡ listed p

-- the sheet that the sweep of the yard adds
abbrev pub first_sheet : Added
first_sheet = record { sheet = 0; rows = 6 }

-- sweeping the yard into a row table, which it leaves as rows', gives a book and the sheet added, if the table has 6 rows
abbrev pub Swept : List (Row SumValue LimitValue) → List (Row SumValue LimitValue) → Result (Book Sum Limit × Added) PlannerFault → Type 0
Swept rows rows' (Ok given) = (6 ≤ length rows) × (given.1 ≡ first_sheet) × Listing given.0 rows'
Swept rows rows' (Err f) = (length rows < 6) × (f ≡ RowsFull)

-- what sweeping the yard into so many rows answers
abbrev pub swept_into : ℕ → Result Added PlannerFault
swept_into room = cond (nat_lt room 6) (Err RowsFull) (Ok first_sheet)

-- what reading a row of the yard answers
abbrev pub read_at : ℕ → ℕ → Result (SumValue × LimitValue) PlannerFault
read_at place index = cond (nat_lt place 4) (cond (nat_lt index (length (listed place))) (Ok (slice_index_or (listed place) index (timed 0 0))) (Err NoSuchRow)) (Err NoSuchPlace)
