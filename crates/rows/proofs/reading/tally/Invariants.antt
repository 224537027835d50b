use Rattle.rows.proofs.Counts.{Counted}
use Rattle.rows.proofs.reading.tally.Given as goal

abbrev pub invariant-loop-row : goal.invariant-loop-row
invariant-loop-row g l = Counted l.place l.rows l.row-index l.count
