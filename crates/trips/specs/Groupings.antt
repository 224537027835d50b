-- Ways to put plans in series.
use Rattle.std.specs.Prelude.{◌≡◌, ℕ, List, [], ◌∷◌, ◌++◌}
use Rattle.criteria.specs.Meaning.{Meaning}
use Rattle.trips.specs.Pages.{Page}
use Rattle.trips.specs.Plans.{Plan, series, Goes}
use Rattle.trips.specs.Trips.{Use}

-- a plan groups a list of plans, of which there is at least one: it is the sole one, or the series of a plan that groups
-- the first few and a plan that groups the rest
pub data Grouping : List Plan → Plan → Type 0 where
  sole : (p : Plan) → Grouping (p ∷ []) p
  parted : (plans front back : List Plan) (p q : Plan) → plans ≡ front ++ back → Grouping front p → Grouping back q → Grouping plans (series p q)

-- two groupings of one list of plans have the same trips to every place
abbrev pub RegroupedTrips : Type 0
RegroupedTrips = (plans : List Plan) (p q : Plan) → Grouping plans p → Grouping plans q → (us : List Use) (e : ℕ) → Goes p us e → Goes q us e

-- and the same pages
abbrev pub RegroupedPage : {V W : Type 0} → Meaning V → Meaning W → Type 0
RegroupedPage {V} {W} a b =
    (plans : List Plan) (p q : Plan) → Grouping plans p → Grouping plans q → (e : ℕ) (xs ys : List (V × W)) → Page a b p e xs → Page a b q e ys → xs ≡ ys
