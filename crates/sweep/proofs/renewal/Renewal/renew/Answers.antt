use Rattle.std.proofs.Common.{◌≡◌, length, subst, arith}
use Rattle.frontiers.specs.Frontiers.{Renewed}
use Rattle.frontiers.proofs.Renewals.{renewed_none, renewed_all}
use Rattle.sweep.proofs.renewal.Renewal.renew.Goals as goal

pub loop-j-init : goal.loop-j-init
loop-j-init g c =
    let s = c.args.self.now in
    let st = c.requires.standing in
    renewed_none (g.A.Criterion.meaning s.first.now) (g.B.Criterion.meaning s.second.now) st.first_laws st.second_laws s.roads.now s.base s.rows.now s.place s.newest s.added c.args.best.now.rows (omega arith) c.requires.older

pub returns : goal.returns
returns g c =
    let s = c.args.self.now in
    let st = c.requires.standing in
    let a = g.A.Criterion.meaning s.first.now in
    let b = g.B.Criterion.meaning s.second.now in
    let all : c.loop-j.j ≡ length s.roads.now = omega arith in
    renewed_all a b st.first_laws st.second_laws s.roads.now s.base s.rows.now s.place s.newest s.added c.loop-j.best.rows (subst (Renewed a b s.roads.now s.base s.rows.now s.place s.newest c.loop-j.best.rows) all c.loop-j.invariant)
