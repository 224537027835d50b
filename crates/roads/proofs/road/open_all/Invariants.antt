use Rattle.std.proofs.Common.{◌≡◌}
use Rattle.roads.specs.Tables.{opened}
use Rattle.roads.proofs.road.open_all.Given as goal

abbrev pub invariant-loop-road : goal.invariant-loop-road
invariant-loop-road l = l.road-items ≡ opened l.road-index l.initial.road-items
