-- The pages of a pool and of a series, from those of their parts.
use Rattle.std.specs.Prelude.{◌≡◌, ℕ, ◌<◌, ◌⊎◌, List}
use Rattle.criteria.specs.Covers.{Covers, Precedes}
use Rattle.criteria.specs.Meaning.{Meaning}
use Rattle.trips.specs.Pages.{Page, PairAt}
use Rattle.trips.specs.Plans.{Plan, series, pool, origin}
use Rattle.trips.specs.Worths.{pair_join}

module _ {V W : Type 0} (a : Meaning V) (b : Meaning W) where
  -- pairs are what is left of candidates once the covered ones are dropped: each is a candidate; each candidate is covered
  -- by one of them; and they stand best first criterion first, so that none covers another
  pub record Thinned (Candidate : V × W → Type 0) (pairs : List (V × W)) : Type 0 where
    pub sound : (i : ℕ) (p : V × W) → PairAt a b pairs i p → Candidate p
    pub whole : (p : V × W) → Candidate p → (i : ℕ) × ((q : V × W) × (PairAt a b pairs i q × Covers a b q p))
    pub ordered : (i j : ℕ) (p q : V × W) → i < j → PairAt a b pairs i p → PairAt a b pairs j q → Precedes a b p q

  -- a pair stands in one of two lists
  abbrev pub OfEither : List (V × W) → List (V × W) → V × W → Type 0
  OfEither xs ys p = ((i : ℕ) × PairAt a b xs i p) ⊎ ((i : ℕ) × PairAt a b ys i p)

  -- a pair is the join of one of a list and one of another
  pub record OfBoth (xs ys : List (V × W)) (p : V × W) : Type 0 where
    pub i : ℕ
    pub j : ℕ
    pub left : V × W
    pub right : V × W
    pub in_left : PairAt a b xs i left
    pub in_right : PairAt a b ys j right
    pub joined : p ≡ pair_join a b left right

  -- the pairs of two pages at one place, thinned, are the page of the pool
  abbrev pub PoolPage : Type 0
  PoolPage =
      (P Q : Plan) (p : ℕ) (xs ys zs : List (V × W)) →
      origin P ≡ origin Q →
      Page a b P p xs →
      Page a b Q p ys →
      Thinned (OfEither xs ys) zs →
      Page a b (pool P Q) p zs

  -- the joins of the first plan's pairs at the second's origin with the second's pairs, thinned, are the page of the series
  abbrev pub SeriesPage : Type 0
  SeriesPage =
      (P Q : Plan) (p : ℕ) (xs ys zs : List (V × W)) →
      Page a b P (origin Q) xs →
      Page a b Q p ys →
      Thinned (OfBoth xs ys) zs →
      Page a b (series P Q) p zs
