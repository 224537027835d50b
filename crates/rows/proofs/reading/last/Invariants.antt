use Rattle.rows.proofs.Counts.{LastBefore}
use Rattle.rows.proofs.reading.last.Given as goal

abbrev pub invariant-loop-k : goal.invariant-loop-k
invariant-loop-k g l = LastBefore l.place l.rows l.k l.behind
