use Rattle.std.proofs.Common.{sym, arith, rules}
use Rattle.frontiers.proofs.Renewals.{renewed_shut, renewed_apart, renewed_entered, renewed_left, held_before, newest_follows, enters_by}
use Rattle.sweep.proofs.renewal.Renewal.see_road.Goals as goal

pub returns-then-not-drivable : goal.returns-then-not-drivable
returns-then-not-drivable g c =
    let r = c.args.self.now in
    let st = c.requires.standing in
    renewed_shut (g.A.Criterion.meaning r.first.now) (g.B.Criterion.meaning r.second.now) st.first_laws st.second_laws r.roads.now r.base r.rows.now c.args.j r.place r.newest c.args.road.now c.requires.road r.added c.args.best.now.rows c.requires.renewed (sym c.if-not-drivable.ensures)

pub try_rows-requires : goal.try_rows-requires
try_rows-requires g c =
    let r = c.args.self.now in
    let st = c.requires.standing in
    let a = g.A.Criterion.meaning r.first.now in
    let b = g.B.Criterion.meaning r.second.now in
    (search rules, (st, (enters_by a b r.roads.now c.args.j r.place c.args.road.now c.requires.road (sym c.if-not-drivable.ensures) c.if-road-self.true, held_before a b st.first_laws st.second_laws r.roads.now r.base r.rows.now c.args.j r.place r.newest c.args.road.now c.requires.road r.added c.args.best.now.rows c.requires.renewed)))

pub returns-then-road-self : goal.returns-then-road-self
returns-then-road-self g c =
    let r = c.args.self.now in
    let st = c.requires.standing in
    renewed_entered (g.A.Criterion.meaning r.first.now) (g.B.Criterion.meaning r.second.now) st.first_laws st.second_laws r.roads.now r.base r.rows.now c.args.j r.place r.newest c.args.road.now c.requires.road r.added c.args.best.now.rows c.requires.renewed c.try_rows.new.best.rows c.if-road-self.true c.try_rows.ensures.kept c.try_rows.ensures.held

pub returns-then-road-self-2 : goal.returns-then-road-self-2
returns-then-road-self-2 g c =
    let r = c.args.self.now in
    let st = c.requires.standing in
    renewed_apart (g.A.Criterion.meaning r.first.now) (g.B.Criterion.meaning r.second.now) st.first_laws st.second_laws r.roads.now r.base r.rows.now c.args.j r.place r.newest c.args.road.now c.requires.road r.added c.args.best.now.rows c.requires.renewed c.if-road-self.false c.if-road-self-2.true

pub try_row-requires : goal.try_row-requires
try_row-requires g c =
    let r = c.args.self.now in
    (search rules, (c.requires.standing, newest_follows (g.A.Criterion.meaning r.first.now) (g.B.Criterion.meaning r.second.now) r.roads.now r.rows.now c.args.j r.place r.newest c.args.road.now c.requires.road r.added (sym c.if-not-drivable.ensures) c.if-road-self-2.false))

pub returns : goal.returns
returns g c =
    let r = c.args.self.now in
    let st = c.requires.standing in
    renewed_left (g.A.Criterion.meaning r.first.now) (g.B.Criterion.meaning r.second.now) st.first_laws st.second_laws r.roads.now r.base r.rows.now c.args.j r.place r.newest c.args.road.now c.requires.road r.added c.args.best.now.rows c.requires.renewed c.try_row.new.best.rows st r.links.now.last r.links.now.prev r.linked (omega arith) c.if-road-self-2.false c.if-road-self.false c.try_row.ensures
