use Rattle.std.proofs.Common.{◌≤◌, length}
use Rattle.roadsheet.proofs.fill.Given as goal

abbrev pub invariant-loop : goal.invariant-loop
invariant-loop g l = l.size ≤ length l.initial.table
