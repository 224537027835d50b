-- The ends of a page: its first pair and its last.
use Rattle.std.specs.Prelude.{ℕ, ◌-◌, List, length}
use Rattle.criteria.specs.Lexical.{lexical_good}
use Rattle.criteria.specs.Meaning.{Meaning}
use Rattle.trips.specs.Pages.{Page, PairAt}
use Rattle.trips.specs.Plans.{Plan, Goes}
use Rattle.trips.specs.Trips.{Use, worth}

module _ {V W : Type 0} (a : Meaning V) (b : Meaning W) where
  -- the first pair of a page is at least as good by the first criterion as every trip, and on a tie by the second
  abbrev pub FirstIsBest : Type 0
  FirstIsBest =
      (plan : Plan) (place : ℕ) (pairs : List (V × W)) (p : V × W) (us : List Use) →
      Page a b plan place pairs →
      PairAt a b pairs 0 p →
      Goes plan us place →
      lexical_good a b (record { first = p.0; second = p.1 }) (record { first = worth a us; second = worth b us })

  -- the last pair is at least as good by the second criterion as every trip, and on a tie by the first
  abbrev pub LastIsBest : Type 0
  LastIsBest =
      (plan : Plan) (place : ℕ) (pairs : List (V × W)) (p : V × W) (us : List Use) →
      Page a b plan place pairs →
      PairAt a b pairs (length pairs - 1) p →
      Goes plan us place →
      lexical_good b a (record { first = p.1; second = p.0 }) (record { first = worth b us; second = worth a us })
