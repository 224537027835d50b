use Rattle.yard.proofs.Sweeps.{table}
use Rattle.yard.proofs.table.yard_stands.Goals as goal

pub returns : goal.returns
returns c = table
