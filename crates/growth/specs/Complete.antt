-- What rows come to that grow by the best uncovered extension.
use Rattle.std.specs.Prelude.{◌≡◌, ℕ, ◌<◌, List, [], ◌∷◌, ◌++◌, length}
use Rattle.criteria.specs.Meaning.{Meaning}
use Rattle.roads.specs.Tables.{Within}
use Rattle.roads.specs.declared.road.Road.{Road}
use Rattle.rows.specs.declared.row.Row.{Row}
use Rattle.rows.specs.declared.row.Source.TheVariants.{Empty}
use Rattle.rows.specs.Places.{RowAt, pairs_at}
use Rattle.trips.specs.Pages.{Page, Rows}
use Rattle.trips.specs.Plans.{Numbered, swept}
use Rattle.growth.specs.Growing.{Fresh, Next}
use Rattle.growth.specs.Grown.{Grown}

-- every road names places that exist, where there are so many, and so does the origin
pub record Inside (places : ℕ) (roads : List Road) (origin : ℕ) : Type 0 where
  pub named : (i : ℕ) (r : Road) → Numbered roads i r → Within places r
  pub begins : origin < places

-- a row ends at a place of the network, and has fewer roads than there are places
pub record Bounded {V W : Type 0} (places : ℕ) (p : Row V W) : Type 0 where
  pub ends : p.end < places
  pub short : p.roads < places

module _ {V W : Type 0} (a : Meaning V) (b : Meaning W) where
  -- the row of the empty trip from the origin
  pub record EmptyRow (origin : ℕ) (r : Row V W) : Type 0 where
    pub ends : r.end ≡ origin
    pub first : r.first ≡ a.unit
    pub second : r.second ≡ b.unit
    pub none : r.roads ≡ 0
    pub source : r.source ≡ Empty

  -- the rows of each place are the page of the sweep there, and all of them are as many as the sweep has rows
  pub record Complete (places : ℕ) (roads : List Road) (origin : ℕ) (rs : List (Row V W)) : Type 0 where
    pub pages : (place : ℕ) → Page a b (swept places roads origin) place (pairs_at place rs)
    pub count : Rows a b places (swept places roads origin) (length rs)

  -- the row of the empty trip, alone, is grown
  abbrev pub StartsGrown : Type 0
  StartsGrown = (roads : List Road) (origin : ℕ) (front : List (Row V W)) (r : Row V W) → EmptyRow origin r → Grown a b roads origin front (r ∷ [])

  -- grown rows with the best uncovered extension behind them are grown
  abbrev pub StaysGrown : Type 0
  StaysGrown =
      (roads : List Road) (origin : ℕ) (front rs : List (Row V W)) (r : Row V W) →
      Grown a b roads origin front rs →
      Next a b roads (length front) rs r →
      Grown a b roads origin front (rs ++ r ∷ [])

  -- grown rows are complete where no uncovered extension is left
  abbrev pub EndsComplete : Type 0
  EndsComplete =
      (places : ℕ) (roads : List Road) (origin : ℕ) (front rs : List (Row V W)) →
      Inside places roads origin →
      Grown a b roads origin front rs →
      ((q : Row V W) → Fresh a b roads (length front) rs q → ⊥) →
      Complete places roads origin rs

  -- grown rows are fewer than the sweep has where the best uncovered extension is still to come
  abbrev pub LeavesRoom : Type 0
  LeavesRoom =
      (places : ℕ) (roads : List Road) (origin : ℕ) (front rs : List (Row V W)) (r : Row V W) (n : ℕ) →
      Inside places roads origin →
      Grown a b roads origin front rs →
      Next a b roads (length front) rs r →
      Rows a b places (swept places roads origin) n →
      length rs < n

  -- a sweep has a row
  abbrev pub HasARow : Type 0
  HasARow =
      (places : ℕ) (roads : List Road) (origin n : ℕ) →
      Inside places roads origin →
      Rows a b places (swept places roads origin) n →
      0 < n

  -- every grown row is bounded
  abbrev pub StaysBounded : Type 0
  StaysBounded =
      (places : ℕ) (roads : List Road) (origin : ℕ) (front rs : List (Row V W)) →
      Inside places roads origin →
      Grown a b roads origin front rs →
      (i : ℕ) (p : Row V W) →
      RowAt rs i p →
      Bounded places p
