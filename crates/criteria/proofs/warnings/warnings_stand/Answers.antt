use Rattle.std.proofs.Common.{rules}
use Rattle.criteria.proofs.UnsteadyLimit.{limit_first_is_unsteady}
use Rattle.criteria.proofs.warnings.warnings_stand.Goals as goal

pub returns : goal.returns
returns c = record { unsteady = limit_first_is_unsteady; disordered = search rules }
