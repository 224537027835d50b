use Rattle.trips.proofs.Efficient.{pages_are_efficient}
use Rattle.trips.proofs.RowCounts.{unique_rows, items_take_rows}
use Rattle.trips.proofs.rows_are_counted.Goals as goal

pub returns : goal.returns
returns g c = record {
  pages = pages_are_efficient c.laws_stand.ensures c.laws_stand-2.ensures;
  unique = unique_rows c.laws_stand.ensures c.laws_stand-2.ensures;
  items = items_take_rows c.laws_stand.ensures c.laws_stand-2.ensures;
}
