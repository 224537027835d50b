use Rattle.trips.proofs.Worths.{worth_of_both}
use Rattle.trips.proofs.worths_join.Goals as goal

pub returns : goal.returns
returns g c = worth_of_both c.laws_stand.ensures
