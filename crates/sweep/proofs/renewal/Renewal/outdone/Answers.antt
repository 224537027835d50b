use Rattle.std.proofs.Common.{arith}
use Rattle.frontiers.proofs.Offers.{outdone_when, holds_read}
use Rattle.sweep.proofs.renewal.Renewal.outdone.Goals as goal

pub returns : goal.returns
returns g c = grind (arith, outdone_when, holds_read)
