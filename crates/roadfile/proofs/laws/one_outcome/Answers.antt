use Rattle.roadfile.proofs.Outcome as outcome
use Rattle.roadfile.proofs.laws.one_outcome.Goals as goal

pub returns : goal.returns
returns c = outcome.one_outcome_lem
