-- Rows that grow by the best uncovered extension come to all rows of a sweep.
use Rattle.criteria.specs.Meaning.{Meaning, Laws}
use Rattle.growth.specs.Complete.{StartsGrown, StaysGrown, EndsComplete, LeavesRoom, HasARow, StaysBounded}
use Rattle.growth.proofs.Bounds.{ends_within, few_roads}
use Rattle.growth.proofs.Counting.{exactly, room, some_row}
use Rattle.growth.proofs.Invariant.{start, more}
use Rattle.growth.proofs.Wholeness.{page}

module _ {V W : Type 0} {a : Meaning V} {b : Meaning W} (la : Laws a) (lb : Laws b) where
  -- the first row is grown
  pub starts_grown : StartsGrown a b
  starts_grown roads origin front r e = start a b la lb roads origin front r e.ends e.first e.second e.none e.source

  -- and so are the rows with one more
  pub stays_grown : StaysGrown a b
  stays_grown roads origin front rs r g next = more a b la lb roads origin front rs g r next

  -- until none is left, and they are all
  pub ends_complete : EndsComplete a b
  ends_complete places roads origin front rs inside g none = record {
    pages = page a b la lb roads origin front rs g places none;
    count = exactly la lb places roads origin inside front rs g none;
  }

  -- before, they are fewer than all
  pub leaves_room : LeavesRoom a b
  leaves_room places roads origin front rs r n inside g next rows = room la lb places roads origin inside front rs r n g next rows

  -- there is a first row
  pub has_a_row : HasARow a b
  has_a_row places roads origin n inside rows = some_row la lb places roads origin inside n rows

  -- no row is longer than a sweep allows
  pub stays_bounded : StaysBounded a b
  stays_bounded places roads origin front rs inside g i p at = record {
    ends = ends_within a b la lb roads origin front rs g places inside.named inside.begins i p at;
    short = few_roads a b la lb roads origin front rs g places inside.named inside.begins i p at;
  }
