-- What a sweep of a book answers, and what it leaves.
use Rattle.std.specs.Prelude.{◌≡◌, ℕ, ◌+◌, ◌-◌, ◌<◌, ◌≤◌, min, List, [], ◌∷◌, ◌++◌, length, take, Ok, Err, IfOk, Result}
use Rattle.criteria.specs.Meaning.{Meaning, most_roads}
use Rattle.roads.specs.Networks as network
use Rattle.roads.specs.declared.road.Road.{Road}
use Rattle.rows.specs.declared.row.Row.{Row}
use Rattle.rows.specs.declared.sheet.Sheet.{Sheet}
use Rattle.rows.specs.Places.{RowAt, rows_of}
use Rattle.sweep.specs.Sweeps.{plan_of, Crowded, MayStand, StandsFor, Swept}
use Rattle.sweep.specs.declared.sweeping.SweepFault.{SweepFault}
use Rattle.trips.specs.Pages.{Page, Rows}
use Rattle.book.specs.declared.added.Added.{Added}
use Rattle.book.specs.declared.book.Book.{Book}
use Rattle.book.specs.declared.fault.PlannerFault.{PlannerFault}
use Rattle.book.specs.declared.fault.PlannerFault.TheVariants.{NoSuchPlace, NoSuchSheet, NoSuchRow, SheetsFull, RowsFull, NoTrip, ForeignTable}
use Rattle.book.specs.Reading.{Serving, count_of, pairs_there}

-- the sheet of a sweep from an origin that has so many rows: its reach is the number of places less one, and its rows follow those in use
abbrev pub swept_sheet : {A B : Type 0} → Book A B → ℕ → ℕ → Sheet
swept_sheet k origin count = record { origin = origin; reach = k.network.places - 1; start = k.used; len = count }

-- a sheet that may follow the others of a book: there is room for it, it starts where they end, and it keeps the bounds of a book
pub record MayFollow {A B : Type 0} (k : Book A B) (s : Sheet) : Type 0 where
  pub room : count_of k < 64
  pub start : s.start ≡ k.used
  pub few : k.used + s.len ≤ 65536
  pub origin : s.origin < k.network.places
  pub reach : s.reach ≤ most_roads

-- the book k' is k with one sheet more
pub record OneMore {A B : Type 0} (k k' : Book A B) (s : Sheet) : Type 0 where
  pub network : k'.network ≡ k.network
  pub first : k'.first ≡ k.first
  pub second : k'.second ≡ k.second
  pub sheets : k'.sheets.items ≡ k.sheets.items ++ s ∷ []
  pub used : k'.used ≡ k.used + s.len

module _ {A B V W : Type 0} where
  -- how many rows of the table are unused, of its first 65,536
  abbrev pub unused : Book A B → List (Row V W) → ℕ
  unused k rows = min 65536 (length rows) - k.used

module _ {A B V W : Type 0} (a : Meaning V) (b : Meaning W) where
  -- both tables serve the book: the road table its network, and the row table its sheets
  pub record Served (k : Book A B) (roads : List Road) (rows : List (Row V W)) : Type 0 where
    pub by_roads : network.Serving k.network roads
    pub by_rows : Serving a b k rows

  -- a sweep from an origin was lent the unused rows, answered r and left them as free; the rows in use are as they were
  pub record Filled (k : Book A B) (roads : List Road) (rows rows' : List (Row V W)) (origin : ℕ) (r : Result ℕ SweepFault) : Type 0 where
    pub free : List (Row V W)
    pub rest : List (Row V W)
    pub long : length free ≡ unused k rows
    pub table : rows' ≡ take k.used rows ++ (free ++ rest)
    pub swept : Swept a b k.network roads k.used (unused k rows) origin r free
    pub lawful : IfOk r (λ count. MayStand a b k.network k.used count free)

  -- an accepted sweep from an origin: the book k became k' and the row table rows became rows'
  pub record Entered (k k' : Book A B) (roads : List Road) (rows rows' : List (Row V W)) (origin : ℕ) (added : Added) : Type 0 where
    -- no refusal applied
    pub served : Served k roads rows
    pub place : origin < k.network.places
    pub room : count_of k < 64
    pub fits : added.rows ≤ unused k rows
    -- the new sheet has the next number and as many rows as the sweep has; the book is else as it was
    pub sheet : added.sheet ≡ count_of k
    pub number : Rows a b k.network.places (plan_of a b k.network roads origin) added.rows
    pub book : OneMore k k' (swept_sheet k origin added.rows)
    -- the rows in use are as they were
    pub before : take k.used rows' ≡ take k.used rows
    -- at each place the new sheet's rows are the page of the sweep over the roads as they stand
    pub pages : (p : ℕ) → Page a b (plan_of a b k.network roads origin) p (pairs_there k' rows' added.sheet p)
    -- each of them stands for a trip that visits no place twice
    pub each : (i : ℕ) (r : Row V W) → RowAt (rows_of (swept_sheet k origin added.rows) rows') i r → StandsFor a b k.network roads origin rows' (k.used + i) r
    -- the tables serve the book again
    pub again : Served k' roads rows'

  -- which refusal comes, the first that applies of: a foreign table, no such place, 64 sheets, and fewer unused rows than the sweep has
  abbrev pub SweepRefused : Book A B → List Road → List (Row V W) → ℕ → PlannerFault → Type 0
  SweepRefused k roads rows origin ForeignTable = Served k roads rows → ⊥
  SweepRefused k roads rows origin NoSuchPlace = Served k roads rows × (k.network.places ≤ origin)
  SweepRefused k roads rows origin SheetsFull = Served k roads rows × (origin < k.network.places) × (64 ≤ count_of k)
  SweepRefused k roads rows origin RowsFull =
      Served k roads rows ×
      (origin < k.network.places) ×
      (count_of k < 64) ×
      Crowded a b k.network roads origin (unused k rows) ×
      ((n : ℕ) → Rows a b k.network.places (plan_of a b k.network roads origin) n → unused k rows < n)
  SweepRefused k roads rows origin NoSuchSheet = ⊥
  SweepRefused k roads rows origin NoSuchRow = ⊥
  SweepRefused k roads rows origin NoTrip = ⊥

  -- a sweep from an origin answers r; a refusal leaves the book and the rows in use as they were
  abbrev pub Sweeping : Book A B → Book A B → List Road → List (Row V W) → List (Row V W) → ℕ → Result Added PlannerFault → Type 0
  Sweeping k k' roads rows rows' origin (Ok added) = Entered k k' roads rows rows' origin added
  Sweeping k k' roads rows rows' origin (Err f) = SweepRefused k roads rows origin f × (k' ≡ k) × (take k.used rows' ≡ take k.used rows)
