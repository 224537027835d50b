use Rattle.std.proofs.Common.{get_or}
use Rattle.roads.proofs.Changes.{unread}
use Rattle.frontiers.proofs.Walks.{Walking, left_of}
use Rattle.sweep.proofs.renewal.Renewal.try_rows.Given as goal

abbrev pub invariant-loop-at : goal.invariant-loop-at
invariant-loop-at g l =
    let s = l.self in
    Walking (g.A.Criterion.meaning s.first.now) (g.B.Criterion.meaning s.second.now) s.roads.now s.base s.rows.now l.j s.place (get_or s.roads.now l.j unread).start l.at l.initial.best.rows l.best.rows

abbrev pub decreases-loop-at : goal.decreases-loop-at
decreases-loop-at g l = left_of l.at
