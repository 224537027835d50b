use Rattle.yard.specs.Building.{Begun}
use Rattle.yard.proofs.building.lay.Given as goal

abbrev pub invariant-loop-start : goal.invariant-loop-start
invariant-loop-start l = Begun l.start-index l.draft l.table
