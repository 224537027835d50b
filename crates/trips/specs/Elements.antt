-- What stands where in a list.
use Rattle.std.specs.Prelude.{◌≡◌, ℕ, ◌<◌, List, length, slice_index_or}

-- x stands at index i
abbrev pub At : {X : Type 0} → List X → ℕ → X → Type 0
At {X} xs i x = (i < length xs) × ((d : X) → slice_index_or xs i d ≡ x)
