-- Plans whose trips are worth the same.
use Rattle.std.specs.Prelude.{◌≡◌, ℕ, List}
use Rattle.criteria.specs.Meaning.{Meaning}
use Rattle.trips.specs.Pages.{Page}
use Rattle.trips.specs.Plans.{Plan, Goes}
use Rattle.trips.specs.Trips.{Use, worths}

module _ {V W : Type 0} (a : Meaning V) (b : Meaning W) where
  -- each trip of P that ends at p is worth what some trip of Q that ends at q is worth
  abbrev pub Matched : Plan → ℕ → Plan → ℕ → Type 0
  Matched P p Q q = (us : List Use) → Goes P us p → (vs : List Use) × (Goes Q vs q × (worths a b us ≡ worths a b vs))

  -- the trips of P that end at p and those of Q that end at q have the same pairs of values
  pub record SamePairs (P : Plan) (p : ℕ) (Q : Plan) (q : ℕ) : Type 0 where
    pub there : Matched P p Q q
    pub back : Matched Q q P p

  -- then their pages are the same
  abbrev pub SamePage : Type 0
  SamePage = (P Q : Plan) (p q : ℕ) (xs ys : List (V × W)) → SamePairs P p Q q → Page a b P p xs → Page a b Q q ys → xs ≡ ys

  -- a plan has one page at most at a place
  abbrev pub UniquePage : Type 0
  UniquePage = (P : Plan) (p : ℕ) (xs ys : List (V × W)) → Page a b P p xs → Page a b P p ys → xs ≡ ys
