-- Rows whose sources stand before them.
use Rattle.std.specs.Prelude.{◌≡◌, ℕ, ◌+◌, List, ◌++◌, length}
use Rattle.rows.specs.declared.row.Row.{Row}
use Rattle.rows.specs.Places.{RowAt}
use Rattle.rows.specs.Sound.{Made}

-- the rows stand behind `base` others in a table: the source of each names only rows before it and roads of which there are so many,
-- and its number of roads follows from its source
pub record Sourced {V W : Type 0} (roads base : ℕ) (rs : List (Row V W)) : Type 0 where
  pub each : (front : List (Row V W)) → length front ≡ base → (i : ℕ) (p : Row V W) → RowAt rs i p → Made roads (front ++ rs) (base + i) p.roads p.source
