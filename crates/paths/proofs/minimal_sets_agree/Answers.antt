use Rattle.paths.proofs.Sets.{minimal_sets_agree_lem}
use Rattle.paths.proofs.minimal_sets_agree.Goals as goal

pub returns : goal.returns
returns c = minimal_sets_agree_lem
