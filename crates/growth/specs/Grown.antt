-- What is known of rows that were grown, each the best uncovered extension of those before it.
use Rattle.std.specs.Prelude.{◌≡◌, ℕ, ◌+◌, ◌<◌, List, ◌++◌, map, length, slice_index}
use Rattle.criteria.specs.Covers.{Covers, Precedes}
use Rattle.criteria.specs.Meaning.{Meaning}
use Rattle.roads.specs.declared.road.Road.{Road}
use Rattle.rows.specs.declared.row.Row.{Row}
use Rattle.rows.specs.Places.{RowAt, pair_of}
use Rattle.rows.specs.Trails.{Trail}
use Rattle.trips.specs.Plans.{Drives, Visits, Distinct}
use Rattle.trips.specs.Trips.{Use, worths}
use Rattle.growth.specs.Growing.{Ahead, Fresh}

-- rows of a sweep from an origin over the roads; they stand in a table behind the rows front
module _ {V W : Type 0} (a : Meaning V) (b : Meaning W) (roads : List Road) (origin : ℕ) (front : List (Row V W)) where
  -- a row that ends at a place and covers the row p
  pub record Passed (rs : List (Row V W)) (p : Row V W) (place : ℕ) : Type 0 where
    pub index : ℕ
    pub row : Row V W
    pub stands : RowAt rs index row
    pub ends : row.end ≡ place
    pub covers : Covers a b (pair_of row) (pair_of p)

  -- the trip that the row p, of index i, stands for: it drives over the roads of the row's trail to the row's end,
  -- has the row's values and its number of roads, and visits no place twice, since a row stands at each that covers p
  pub record Known (rs : List (Row V W)) (i : ℕ) (p : Row V W) : Type 0 where
    pub uses : List Use
    pub stops : List ℕ
    pub drives : Drives roads origin uses p.end
    pub values : pair_of p ≡ worths a b uses
    pub count : length uses ≡ p.roads
    pub trail : Trail (front ++ rs) (length front + i) (map (λ u. u.road) uses)
    pub visits : Visits roads origin uses stops
    pub distinct : Distinct stops
    pub passed : (k : ℕ) → k < length stops → Passed rs p (slice_index stops k)

  -- the rows so far
  pub record Grown (rs : List (Row V W)) : Type 0 where
    pub seed : (p : Row V W) → RowAt rs 0 p → (p.end ≡ origin) × (p.first ≡ a.unit) × (p.second ≡ b.unit)
    pub some : 0 < length rs
    pub known : (i : ℕ) (p : Row V W) → RowAt rs i p → Known rs i p
    pub ordered : (i j : ℕ) (p q : Row V W) → i < j → RowAt rs i p → RowAt rs j q → p.end ≡ q.end → Precedes a b (pair_of p) (pair_of q)
    pub ahead : (i : ℕ) (p q : Row V W) → RowAt rs i p → Fresh a b roads (length front) rs q → Ahead a b (pair_of p) (pair_of q)
