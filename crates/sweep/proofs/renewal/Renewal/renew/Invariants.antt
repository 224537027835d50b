use Rattle.frontiers.specs.Frontiers.{Renewed}
use Rattle.sweep.proofs.renewal.Renewal.renew.Given as goal

abbrev pub invariant-loop-j : goal.invariant-loop-j
invariant-loop-j g l =
    let s = l.self in
    Renewed (g.A.Criterion.meaning s.first.now) (g.B.Criterion.meaning s.second.now) s.roads.now s.base s.rows.now s.place s.newest l.best.rows l.j
