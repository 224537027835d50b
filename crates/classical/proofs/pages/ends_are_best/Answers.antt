use Rattle.classical.proofs.Ends.{first_is_best, last_is_best}
use Rattle.classical.proofs.pages.ends_are_best.Goals as goal

pub returns : goal.returns
returns g c = record {
  first = first_is_best c.laws_stand.ensures.order;
  last = last_is_best c.laws_stand-2.ensures.order;
}
