-- How the rows of a sweep grow.
use Rattle.std.specs.Prelude.{◌≡◌, ℕ, ◌+◌, true, ◌⊎◌, List}
use Rattle.criteria.specs.Covers.{Covers}
use Rattle.criteria.specs.Meaning.{Meaning, Strict}
use Rattle.roads.specs.declared.road.Road.{Road}
use Rattle.rows.specs.declared.row.Row.{Row}
use Rattle.rows.specs.declared.row.Source.TheVariants.{Extend}
use Rattle.rows.specs.Places.{RowAt, pair_of}
use Rattle.trips.specs.Plans.{Numbered}

module _ {V W : Type 0} (a : Meaning V) (b : Meaning W) where
  -- a pair is better than another, or as good: the first criterion decides, and the second on a tie
  abbrev pub Ahead : V × W → V × W → Type 0
  Ahead p q = Strict a.good p.0 q.0 ⊎ ((p.0 ≡ q.0) × b.good p.1 q.1)

  -- one of the rows ends where the row r ends, and covers it
  pub record Covered (rows : List (Row V W)) (r : Row V W) : Type 0 where
    pub index : ℕ
    pub row : Row V W
    pub stands : RowAt rows index row
    pub place : row.end ≡ r.end
    pub covers : Covers a b (pair_of row) (pair_of r)

  module _ (roads : List Road) (base : ℕ) where
    -- r is row p, the one of index i, with the open road q of number j behind it; rows are named from base on
    pub record Extends (rows : List (Row V W)) (i : ℕ) (p : Row V W) (j : ℕ) (q : Road) (r : Row V W) : Type 0 where
      pub row : RowAt rows i p
      pub road : Numbered roads j q
      pub free : q.«open» ≡ true
      pub starts : q.start ≡ p.end
      pub ends : r.end ≡ q.end
      pub first : r.first ≡ a.join p.first (a.value q.marks)
      pub second : r.second ≡ b.join p.second (b.value q.marks)
      pub longer : r.roads ≡ p.roads + 1
      pub source : r.source ≡ Extend (base + i) j

    -- an extension of one of the rows
    pub record Extension (rows : List (Row V W)) (r : Row V W) : Type 0 where
      pub index : ℕ
      pub row : Row V W
      pub number : ℕ
      pub road : Road
      pub extends : Extends rows index row number road r

    -- an extension of one of the rows that no row covers
    pub record Fresh (rows : List (Row V W)) (r : Row V W) : Type 0 where
      pub index : ℕ
      pub row : Row V W
      pub number : ℕ
      pub road : Road
      pub extends : Extends rows index row number road r
      pub uncovered : Covered rows r → ⊥

    -- the best of them
    pub record Next (rows : List (Row V W)) (r : Row V W) : Type 0 where
      pub fresh : Fresh rows r
      pub best : (q : Row V W) → Fresh rows q → Ahead (pair_of r) (pair_of q)
