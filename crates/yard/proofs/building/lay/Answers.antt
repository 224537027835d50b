use Rattle.yard.proofs.Laying.{laid_from}
use Rattle.yard.proofs.building.lay.Goals as goal

pub unwrap-requires : goal.unwrap-requires
unwrap-requires c =
    let l = c.loop-start in
    let laid = rw c.roads-start-items.ensures at c.road.ensures in
    (laid_from l.start-index l.draft l.table c.loop-start-test.true l.invariant c.road.result c.road.new.self c.road.new.table laid).0
