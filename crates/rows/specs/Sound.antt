-- Row tables: which are sound for the sheets of a book.
use Rattle.std.specs.Prelude.{◌≡◌, ℕ, ◌+◌, ◌<◌, ◌≤◌, List, length, slice_index_or}
use Rattle.criteria.specs.Meaning.{Meaning}
use Rattle.rows.specs.declared.row.Row.{Row}
use Rattle.rows.specs.declared.row.Source.{Source}
use Rattle.rows.specs.declared.row.Source.TheVariants.{Empty, Extend, Pair, Taken}
use Rattle.rows.specs.declared.sheet.Sheet.{Sheet}
use Rattle.rows.specs.Places.{RowAt}

module _ {V W : Type 0} where
  -- n roads are those of row i, which stands before row k, and one more, road j, one of so many
  pub record Extended (roads : ℕ) (table : List (Row V W)) (k n i j : ℕ) : Type 0 where
    pub early : i < k
    pub road : j < roads
    pub count : (p : Row V W) → RowAt table i p → n ≡ p.roads + 1

  -- n roads are those of rows i and j, which stand before row k
  pub record Paired (table : List (Row V W)) (k n i j : ℕ) : Type 0 where
    pub early : i < k
    pub later : j < k
    pub count : (p q : Row V W) → RowAt table i p → RowAt table j q → n ≡ p.roads + q.roads

  -- n roads are those of row i, which stands before row k
  pub record TakenOver (table : List (Row V W)) (k n i : ℕ) : Type 0 where
    pub early : i < k
    pub count : (p : Row V W) → RowAt table i p → n ≡ p.roads

  -- a source of row k names only earlier rows and roads of which there are so many, and n roads follow from it
  abbrev pub Made : ℕ → List (Row V W) → ℕ → ℕ → Source → Type 0
  Made roads table k n Empty = n ≡ 0
  Made roads table k n (Extend i j) = Extended roads table k n i j
  Made roads table k n (Pair i j) = Paired table k n i j
  Made roads table k n (Taken i) = TakenOver table k n i

  -- the row r ends at one of so many places, has no more roads than the reach, and both its values pass for that many
  pub record Fits (a : Meaning V) (b : Meaning W) (places reach : ℕ) (r : Row V W) : Type 0 where
    pub ends : r.end < places
    pub near : r.roads ≤ reach
    pub first : a.passes r.roads r.first
    pub second : b.passes r.roads r.second

  -- the row r may stand at k in the table, in a sheet of that reach
  pub record LawfulRow (a : Meaning V) (b : Meaning W) (places roads : ℕ) (table : List (Row V W)) (reach k : ℕ) (r : Row V W) : Type 0 where
    pub fits : Fits a b places reach r
    pub made : Made roads table k r.roads r.source

  -- what stands at k in the table may stand there, in a sheet of that reach
  abbrev pub LawfulAt : (a : Meaning V) (b : Meaning W) (places roads : ℕ) (table : List (Row V W)) (reach k : ℕ) → Type 0
  LawfulAt a b places roads table reach k = (r : Row V W) → RowAt table k r → LawfulRow a b places roads table reach k r

  -- every row of the sheet may stand where it does
  pub record SheetSound (a : Meaning V) (b : Meaning W) (places roads : ℕ) (table : List (Row V W)) (s : Sheet) : Type 0 where
    pub rows : (k : ℕ) → s.start ≤ k → k < s.start + s.len → LawfulAt a b places roads table s.reach k

  -- the table has the used rows, and every row of every sheet may stand where it does
  pub record Sound (a : Meaning V) (b : Meaning W) (places roads : ℕ) (sheets : List Sheet) (used : ℕ) (table : List (Row V W)) : Type 0 where
    pub long : used ≤ length table
    pub each : (i : ℕ) (d : Sheet) → i < length sheets → SheetSound a b places roads table (slice_index_or sheets i d)
