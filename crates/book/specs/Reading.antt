-- What the calls that read a sheet of a book answer.
use Rattle.std.specs.Prelude.{◌≡◌, ℕ, ◌-◌, ◌<◌, ◌≤◌, List, length, Ok, Err, Result, slice_index_or}
use Rattle.criteria.specs.Meaning.{Meaning}
use Rattle.rows.specs.declared.row.Row.{Row}
use Rattle.rows.specs.declared.sheet.Sheet.{Sheet}
use Rattle.rows.specs.Places.{RowAt, pairs_at, rows_at, rows_of}
use Rattle.rows.specs.Sound.{Sound}
use Rattle.book.specs.declared.book.Book.{Book}
use Rattle.book.specs.declared.fault.PlannerFault.{PlannerFault}
use Rattle.book.specs.declared.fault.PlannerFault.TheVariants.{NoSuchPlace, NoSuchSheet, NoSuchRow, SheetsFull, RowsFull, NoTrip, ForeignTable}

-- how many sheets the book has
abbrev pub count_of : {A B : Type 0} → Book A B → ℕ
count_of k = length k.sheets.items

-- sheet s of the book; one without rows where there is none
abbrev pub sheet_of : {A B : Type 0} → Book A B → ℕ → Sheet
sheet_of k s = slice_index_or k.sheets.items s (record { origin = 0; reach = 0; start = 0; len = 0 })

module _ {A B V W : Type 0} where
  -- the row table is sound for the book's sheets
  abbrev pub Serving : Meaning V → Meaning W → Book A B → List (Row V W) → Type 0
  Serving a b k rows = Sound a b k.network.places k.network.roads k.sheets.items k.used rows

  -- the table serves, and sheet s and place p exist
  pub record Readable (a : Meaning V) (b : Meaning W) (k : Book A B) (rows : List (Row V W)) (s p : ℕ) : Type 0 where
    pub serving : Serving a b k rows
    pub sheet : s < count_of k
    pub place : p < k.network.places

  -- the rows of sheet s that end at place p
  abbrev pub rows_there : Book A B → List (Row V W) → ℕ → ℕ → List (Row V W)
  rows_there k rows s p = rows_at p (rows_of (sheet_of k s) rows)

  -- their values
  abbrev pub pairs_there : Book A B → List (Row V W) → ℕ → ℕ → List (V × W)
  pairs_there k rows s p = pairs_at p (rows_of (sheet_of k s) rows)

  -- which refusal comes for place p of sheet s: the first that applies of a foreign table, no such sheet, and no such place
  abbrev pub PlaceRefused : Meaning V → Meaning W → Book A B → List (Row V W) → ℕ → ℕ → PlannerFault → Type 0
  PlaceRefused a b k rows s p ForeignTable = Serving a b k rows → ⊥
  PlaceRefused a b k rows s p NoSuchSheet = Serving a b k rows × (count_of k ≤ s)
  PlaceRefused a b k rows s p NoSuchPlace = Serving a b k rows × (s < count_of k) × (k.network.places ≤ p)
  PlaceRefused a b k rows s p NoSuchRow = ⊥
  PlaceRefused a b k rows s p SheetsFull = ⊥
  PlaceRefused a b k rows s p RowsFull = ⊥
  PlaceRefused a b k rows s p NoTrip = ⊥

  -- place p of sheet s can be read, and x is that sheet
  pub record Found (a : Meaning V) (b : Meaning W) (k : Book A B) (rows : List (Row V W)) (s p : ℕ) (x : Sheet) : Type 0 where
    pub readable : Readable a b k rows s p
    pub is : x ≡ sheet_of k s

  -- how many rows of sheet s end at place p
  abbrev pub Counted : Meaning V → Meaning W → Book A B → List (Row V W) → ℕ → ℕ → Result ℕ PlannerFault → Type 0
  Counted a b k rows s p (Ok n) = Readable a b k rows s p × (n ≡ length (rows_there k rows s p))
  Counted a b k rows s p (Err f) = PlaceRefused a b k rows s p f

  -- r is the row of index i among those of sheet s that end at place p
  abbrev pub RowThere : Meaning V → Meaning W → Book A B → List (Row V W) → ℕ → ℕ → ℕ → Row V W → Type 0
  RowThere a b k rows s p i r = Readable a b k rows s p × RowAt (rows_there k rows s p) i r

  -- which refusal comes for the row of index i: as above, and then no such row
  abbrev pub RowRefused : Meaning V → Meaning W → Book A B → List (Row V W) → ℕ → ℕ → ℕ → PlannerFault → Type 0
  RowRefused a b k rows s p i ForeignTable = PlaceRefused a b k rows s p ForeignTable
  RowRefused a b k rows s p i NoSuchSheet = PlaceRefused a b k rows s p NoSuchSheet
  RowRefused a b k rows s p i NoSuchPlace = PlaceRefused a b k rows s p NoSuchPlace
  RowRefused a b k rows s p i NoSuchRow = Readable a b k rows s p × (length (rows_there k rows s p) ≤ i)
  RowRefused a b k rows s p i SheetsFull = ⊥
  RowRefused a b k rows s p i RowsFull = ⊥
  RowRefused a b k rows s p i NoTrip = ⊥

  -- r is the first of the rows of sheet s that end at place p, the best by the first criterion
  abbrev pub FirstThere : Meaning V → Meaning W → Book A B → List (Row V W) → ℕ → ℕ → Row V W → Type 0
  FirstThere a b k rows s p r = Readable a b k rows s p × RowAt (rows_there k rows s p) 0 r

  -- r is the last of them, the best by the second criterion
  abbrev pub LastThere : Meaning V → Meaning W → Book A B → List (Row V W) → ℕ → ℕ → Row V W → Type 0
  LastThere a b k rows s p r = Readable a b k rows s p × RowAt (rows_there k rows s p) (length (rows_there k rows s p) - 1) r

  -- which refusal comes for the best row: as for a place, and then no trip
  abbrev pub BestRefused : Meaning V → Meaning W → Book A B → List (Row V W) → ℕ → ℕ → PlannerFault → Type 0
  BestRefused a b k rows s p ForeignTable = PlaceRefused a b k rows s p ForeignTable
  BestRefused a b k rows s p NoSuchSheet = PlaceRefused a b k rows s p NoSuchSheet
  BestRefused a b k rows s p NoSuchPlace = PlaceRefused a b k rows s p NoSuchPlace
  BestRefused a b k rows s p NoTrip = Readable a b k rows s p × (length (rows_there k rows s p) ≡ 0)
  BestRefused a b k rows s p NoSuchRow = ⊥
  BestRefused a b k rows s p SheetsFull = ⊥
  BestRefused a b k rows s p RowsFull = ⊥
