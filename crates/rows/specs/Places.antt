-- The rows of a place.
use Rattle.std.specs.Prelude.{ℕ, ◌+◌, ◌<◌, ◌≤◌, cond, List, [], ◌∷◌, map, take, drop, ◌==◌}
use Rattle.trips.specs.Elements.{At}
use Rattle.rows.specs.declared.row.Row.{Row}
use Rattle.rows.specs.declared.sheet.Sheet.{Sheet}

module _ {V W : Type 0} where
  -- the row at index i is r
  abbrev pub RowAt : List (Row V W) → ℕ → Row V W → Type 0
  RowAt = At

  -- the values of a row
  abbrev pub pair_of : Row V W → V × W
  pair_of r = (r.first, r.second)

  -- the rows that end at a place, in their order
  abbrev pub rows_at : ℕ → List (Row V W) → List (Row V W)
  rows_at place [] = []
  rows_at place (r ∷ rows) = cond (r.end == place) (r ∷ rows_at place rows) (rows_at place rows)

  -- their values
  abbrev pub pairs_at : ℕ → List (Row V W) → List (V × W)
  pairs_at place rows = map pair_of (rows_at place rows)

  -- the rows of a sheet, where the table has them
  abbrev pub rows_of : Sheet → List (Row V W) → List (Row V W)
  rows_of s table = take s.len (drop s.start table)

  -- row k is the one of index i among those that end at the place
  pub record Position (rows : List (Row V W)) (place i k : ℕ) : Type 0 where
    pub row : Row V W
    pub stands : RowAt rows k row
    pub among : RowAt (rows_at place rows) i row

  -- row k of the table is one of the sheet, and the one of index i among those of the sheet that end at the place
  pub record StandsAt (table : List (Row V W)) (s : Sheet) (place i k : ℕ) : Type 0 where
    pub from : s.start ≤ k
    pub below : k < s.start + s.len
    pub row : Row V W
    pub stands : RowAt table k row
    pub among : RowAt (rows_at place (rows_of s table)) i row
