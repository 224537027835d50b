-- What sheets are made by, and the trips of each.
use Rattle.std.specs.Prelude.{◌≡◌, ℕ, ◌+◌, ◌-◌, ◌<◌, max, true, ◌⊎◌, List, [], ◌∷◌, ◌++◌, length, ◌≢◌, slice_index}
use Rattle.roads.specs.declared.road.Road.{Road}
use Rattle.trips.specs.Elements.{At}
use Rattle.trips.specs.Trips.{Use}

-- how a sheet came about
pub data Plan : Type 0 where
  -- a sweep, in a network of so many places, over roads as they stood, from an origin
  swept : ℕ → List Road → ℕ → Plan
  -- the trips of one sheet, each followed by trips of another
  series : Plan → Plan → Plan
  -- the trips of two sheets
  pool : Plan → Plan → Plan

-- where the trips of a plan start
abbrev pub origin : Plan → ℕ
origin (swept places roads s) = s
origin (series a b) = origin a
origin (pool a b) = origin a

-- the most roads that a row of a plan's sheet has
abbrev pub reach : Plan → ℕ
reach (swept places roads s) = places - 1
reach (series a b) = reach a + reach b
reach (pool a b) = max (reach a) (reach b)

-- the road of number i is r
abbrev pub Numbered : List Road → ℕ → Road → Type 0
Numbered = At

-- r may be driven from s, as the use u says: it is an open road that starts at s, with the number and the marks of u
pub record Drivable (roads : List Road) (s : ℕ) (u : Use) (r : Road) : Type 0 where
  pub numbered : Numbered roads u.road r
  pub free : r.«open» ≡ true
  pub same : u.marks ≡ r.marks
  pub starts : r.start ≡ s

-- the uses lead from s to e, each starting where the one before ended
abbrev pub Drives : List Road → ℕ → List Use → ℕ → Type 0
Drives roads s [] e = s ≡ e
Drives roads s (u ∷ us) e = (r : Road) × (Drivable roads s u r × Drives roads r.end us e)

-- the places that such a trip visits, from s on, in their order
abbrev pub Visits : List Road → ℕ → List Use → List ℕ → Type 0
Visits roads s [] stops = stops ≡ s ∷ []
Visits roads s (u ∷ us) stops = (r : Road) × ((rest : List ℕ) × (Drivable roads s u r × (stops ≡ s ∷ rest) × Visits roads r.end us rest))

-- no number stands twice in the list
abbrev pub Distinct : List ℕ → Type 0
Distinct ns = (i j : ℕ) → i < j → j < length ns → slice_index ns i ≢ slice_index ns j

-- the trips of a plan that end at a place. A pool's parts start at one place, or it has no trips
abbrev pub Goes : Plan → List Use → ℕ → Type 0
Goes (swept places roads s) us e = Drives roads s us e
Goes (series a b) us e = (x : List Use) × ((y : List Use) × ((us ≡ x ++ y) × Goes a x (origin b) × Goes b y e))
Goes (pool a b) us e = (origin a ≡ origin b) × (Goes a us e ⊎ Goes b us e)
