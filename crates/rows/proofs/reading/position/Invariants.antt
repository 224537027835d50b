use Rattle.std.proofs.Common.{◌≤◌}
use Rattle.rows.proofs.Counts.{Counted}
use Rattle.rows.proofs.reading.position.Given as goal

abbrev pub invariant-loop-k : goal.invariant-loop-k
invariant-loop-k g l = Counted l.place l.rows l.k l.before × (l.before ≤ l.index)
