-- Paths over roads, as lists of road numbers.
use Rattle.std.specs.Prelude.{◌≡◌, ℕ, ◌<◌, true, List, [], ◌∷◌, length, slice_index_or}
use Rattle.roads.specs.declared.road.Road.{Road}

-- i is the number of an open road, which is r and starts at s
pub record Leaves (roads : List Road) (s i : ℕ) (r : Road) : Type 0 where
  pub within : i < length roads
  pub is : (d : Road) → slice_index_or roads i d ≡ r
  pub free : r.«open» ≡ true
  pub starts : r.start ≡ s

-- the numbers are those of open roads that lead from s to e, each starting where the one before it ended
abbrev pub Path : List Road → ℕ → List ℕ → ℕ → Type 0
Path roads s [] e = s ≡ e
Path roads s (i ∷ path) e = (r : Road) × (Leaves roads s i r × Path roads r.end path e)
