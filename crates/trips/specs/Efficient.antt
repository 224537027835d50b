-- Efficient pairs of values, and how many rows they take.
use Rattle.std.specs.Prelude.{◌≡◌, ℕ, ◌<◌, ◌≤◌, List, length}
use Rattle.criteria.specs.Covers.{Covers}
use Rattle.criteria.specs.Meaning.{Meaning}
use Rattle.trips.specs.Elements.{At}
use Rattle.trips.specs.Pages.{Page, PairAt, Rows}
use Rattle.trips.specs.Plans.{Plan, Goes}
use Rattle.trips.specs.Trips.{Use, worths}

module _ {V W : Type 0} (a : Meaning V) (b : Meaning W) where
  -- a pair is efficient at a place: it is that of a trip that ends there, and only trips of the same pair cover it
  pub record Efficient (plan : Plan) (place : ℕ) (pair : V × W) : Type 0 where
    pub some : (us : List Use) × (Goes plan us place × (pair ≡ worths a b us))
    pub best : (us : List Use) → Goes plan us place → Covers a b (worths a b us) pair → worths a b us ≡ pair

  -- pairs are exactly those that are efficient at a place
  pub record PageIsEfficient (plan : Plan) (place : ℕ) (pairs : List (V × W)) : Type 0 where
    pub all : (p : V × W) → Efficient plan place p → (i : ℕ) × PairAt a b pairs i p
    pub only : (i : ℕ) (p : V × W) → PairAt a b pairs i p → Efficient plan place p

  -- the pairs of a page are
  abbrev pub PagesAreEfficient : Type 0
  PagesAreEfficient = (plan : Plan) (place : ℕ) (pairs : List (V × W)) → Page a b plan place pairs → PageIsEfficient plan place pairs

  -- a plan has one number of rows at most
  abbrev pub UniqueRows : Type 0
  UniqueRows = (places : ℕ) (plan : Plan) (m n : ℕ) → Rows a b places plan m → Rows a b places plan n → m ≡ n

  -- different items, each a place below places with a pair that is efficient there
  pub record EfficientItems (places : ℕ) (plan : Plan) (items : List (ℕ × (V × W))) : Type 0 where
    pub each : (k : ℕ) (item : ℕ × (V × W)) → At items k item → (item.0 < places) × Efficient plan item.0 item.1
    pub apart : (j k : ℕ) (item : ℕ × (V × W)) → j < k → At items j item → At items k item → ⊥

  -- there are at least as many rows as such items
  abbrev pub ItemsTakeRows : Type 0
  ItemsTakeRows = (places : ℕ) (plan : Plan) (n : ℕ) (items : List (ℕ × (V × W))) → Rows a b places plan n → EfficientItems places plan items → length items ≤ n
