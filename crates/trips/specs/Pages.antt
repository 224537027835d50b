-- The rows of a sheet at a place, as pairs of values.
use Rattle.std.specs.Prelude.{◌≡◌, ℕ, zero, suc, ◌+◌, ◌<◌, List, length}
use Rattle.criteria.specs.Covers.{Covers, Precedes}
use Rattle.criteria.specs.Meaning.{Meaning}
use Rattle.trips.specs.Elements.{At}
use Rattle.trips.specs.Plans.{Plan, Goes}
use Rattle.trips.specs.Trips.{Use, worths}

module _ {V W : Type 0} (a : Meaning V) (b : Meaning W) where
  -- the pair at index i
  abbrev pub PairAt : List (V × W) → ℕ → V × W → Type 0
  PairAt = At

  -- pairs are the page of a plan at a place: each is that of a trip that ends there; each such trip is covered by one of them;
  -- and they stand best first criterion first, so that none covers another
  pub record Page (plan : Plan) (place : ℕ) (pairs : List (V × W)) : Type 0 where
    pub sound : (i : ℕ) (p : V × W) → PairAt pairs i p → (us : List Use) × (Goes plan us place × (p ≡ worths a b us))
    pub whole : (us : List Use) → Goes plan us place → (i : ℕ) × ((p : V × W) × (PairAt pairs i p × Covers a b p (worths a b us)))
    pub ordered : (i j : ℕ) (p q : V × W) → i < j → PairAt pairs i p → PairAt pairs j q → Precedes a b p q

  -- the pages of the first n places, one for each
  abbrev pub Pages : Plan → ℕ → (ℕ → List (V × W)) → Type 0
  Pages plan n pages = (p : ℕ) → p < n → Page plan p (pages p)

  -- how many pairs the first n of them have together
  abbrev pub all_rows : (ℕ → List (V × W)) → ℕ → ℕ
  all_rows pages zero = 0
  all_rows pages (suc n) = all_rows pages n + length (pages n)

  -- a sheet of the plan, in a network of so many places, has n rows
  pub record Rows (places : ℕ) (plan : Plan) (n : ℕ) : Type 0 where
    pub pages : ℕ → List (V × W)
    pub each : Pages plan places pages
    pub count : n ≡ all_rows pages places
