-- The roads of a row, along its sources.
use Rattle.std.specs.Prelude.{◌≡◌, ℕ, List, [], ◌∷◌, ◌++◌}
use Rattle.rows.specs.declared.row.Row.{Row}
use Rattle.rows.specs.declared.row.Source.TheVariants.{Empty, Extend, Pair, Taken}
use Rattle.rows.specs.Places.{RowAt}

-- the row of index k in the table stands for a trip over these roads, in driving order
pub data Trail {V W : Type 0} (table : List (Row V W)) : ℕ → List ℕ → Type 0 where
  -- the empty trip has none
  empty : {k : ℕ} (r : Row V W) → RowAt table k r → r.source ≡ Empty → Trail table k []
  -- those of a row, and one more
  extend : {k : ℕ} (r : Row V W) (i j : ℕ) (js : List ℕ) → RowAt table k r → r.source ≡ Extend i j → Trail table i js → Trail table k (js ++ j ∷ [])
  -- those of one row, and then those of another
  pair : {k : ℕ} (r : Row V W) (i j : ℕ) (is js : List ℕ) → RowAt table k r → r.source ≡ Pair i j → Trail table i is → Trail table j js → Trail table k (is ++ js)
  -- those of the row that was taken over
  taken : {k : ℕ} (r : Row V W) (i : ℕ) (is : List ℕ) → RowAt table k r → r.source ≡ Taken i → Trail table i is → Trail table k is
