use Rattle.frontiers.proofs.Sound.{stays_renewed, chooses_next, leaves_none}
use Rattle.frontiers.proofs.frontier_is_sound.Goals as goal

pub returns : goal.returns
returns g c = record {
  renewed = stays_renewed c.laws_stand.ensures c.laws_stand-2.ensures;
  next = chooses_next c.laws_stand.ensures c.laws_stand-2.ensures;
  none = leaves_none c.laws_stand.ensures c.laws_stand-2.ensures;
}
