-- The rows of a sweep are the values of a minimal complete set of efficient paths.
use Rattle.std.specs.Prelude.{◌≡◌, ℕ, List, length, ◌≢◌}
use Rattle.paths.specs.Objectives.{Objective, value}
use Rattle.paths.specs.Problems.{Problem, first_objective, second_objective}
use Rattle.paths.specs.Sets.{Stands, Minimal}
use Rattle.roads.specs.declared.road.Road.{Road}
use Rattle.trips.specs.Pages.{Page, PairAt}
use Rattle.trips.specs.Plans.{swept}
use Rattle.classical.specs.Values.{ValueFor, meaning_for, IsNumber}

-- a pair is the values of a path for the two objectives
pub record Valued (f g : Objective) (roads : List Road) (path : List ℕ) (p : ValueFor f × ValueFor g) : Type 0 where
  pub first : IsNumber f p.0 (value f roads path)
  pub second : IsNumber g p.1 (value g roads path)

-- the pairs are, one by one and in their order, the values of the paths of the set for the two objectives
pub record ValuesOf (f g : Objective) (roads : List Road) (set : List (List ℕ)) (pairs : List (ValueFor f × ValueFor g)) : Type 0 where
  pub many : length pairs ≡ length set
  pub each : (i : ℕ) (path : List ℕ) (p : ValueFor f × ValueFor g) → Stands set i path → PairAt (meaning_for f) (meaning_for g) pairs i p → Valued f g roads path p

-- for each problem, whichever marks it is about: the page of a sweep at any place but its origin lists the values of a minimal complete set of
-- efficient paths from the origin to that place, and there is such a set
abbrev pub PagesAreClassical : Type 0
PagesAreClassical =
    (problem : Problem) (c d places : ℕ) (roads : List Road) (s e : ℕ) (pairs : List (ValueFor (first_objective problem c) × ValueFor (second_objective problem d))) →
    (s ≢ e) →
    Page (meaning_for (first_objective problem c)) (meaning_for (second_objective problem d)) (swept places roads s) e pairs →
    (set : List (List ℕ)) × (Minimal (first_objective problem c) (second_objective problem d) roads s e set × ValuesOf (first_objective problem c) (second_objective problem d) roads set pairs)

-- the pairs and the values of the paths of the set are the same, in whatever order
pub record SameValues (f g : Objective) (roads : List Road) (set : List (List ℕ)) (pairs : List (ValueFor f × ValueFor g)) : Type 0 where
  pub there : (i : ℕ) (p : ValueFor f × ValueFor g) → PairAt (meaning_for f) (meaning_for g) pairs i p → (j : ℕ) × ((path : List ℕ) × (Stands set j path × Valued f g roads path p))
  pub back : (j : ℕ) (path : List ℕ) → Stands set j path → (i : ℕ) × ((p : ValueFor f × ValueFor g) × (PairAt (meaning_for f) (meaning_for g) pairs i p × Valued f g roads path p))

-- and every such set, whichever paths it has, has the values that the page lists
abbrev pub EverySetHasThePage : Type 0
EverySetHasThePage =
    (problem : Problem) (c d places : ℕ) (roads : List Road) (s e : ℕ) (pairs : List (ValueFor (first_objective problem c) × ValueFor (second_objective problem d))) →
    (s ≢ e) →
    Page (meaning_for (first_objective problem c)) (meaning_for (second_objective problem d)) (swept places roads s) e pairs →
    (set : List (List ℕ)) →
    Minimal (first_objective problem c) (second_objective problem d) roads s e set →
    SameValues (first_objective problem c) (second_objective problem d) roads set pairs
