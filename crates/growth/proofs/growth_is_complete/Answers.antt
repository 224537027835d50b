use Rattle.growth.proofs.Complete.{starts_grown, stays_grown, ends_complete, leaves_room, has_a_row, stays_bounded}
use Rattle.growth.proofs.growth_is_complete.Goals as goal

pub returns : goal.returns
returns g c = record {
  start = starts_grown c.laws_stand.ensures c.laws_stand-2.ensures;
  more = stays_grown c.laws_stand.ensures c.laws_stand-2.ensures;
  complete = ends_complete c.laws_stand.ensures c.laws_stand-2.ensures;
  full = leaves_room c.laws_stand.ensures c.laws_stand-2.ensures;
  some = has_a_row c.laws_stand.ensures c.laws_stand-2.ensures;
  bounded = stays_bounded c.laws_stand.ensures c.laws_stand-2.ensures;
}
