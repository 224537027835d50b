use Rattle.yard.proofs.Laying.{closes}
use Rattle.yard.proofs.building.build.Goals as goal

pub unwrap-network-requires : goal.unwrap-network-requires
unwrap-network-requires c = closes c.lay.new.draft c.lay.new.table c.close.new.table c.lay.ensures c.close.result c.close.ensures
