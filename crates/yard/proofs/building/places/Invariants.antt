use Rattle.std.proofs.Common.{◌≡◌}
use Rattle.yard.proofs.building.places.Given as goal

abbrev pub invariant-loop : goal.invariant-loop
invariant-loop l = (l.draft.places ≡ l.counter) × (l.draft.roads ≡ 0)
