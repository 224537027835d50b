use Rattle.std.proofs.Common.{◌≡◌, ◌<◌, length, get_or, Some, sym, subst, arith, rules}
use Rattle.roads.specs.declared.road.Road.{Road}
use Rattle.roads.proofs.Changes.{unread}
use Rattle.trips.specs.Plans.{Numbered}
use Rattle.frontiers.specs.Frontiers.{Latest}
use Rattle.frontiers.proofs.Offers.{road_read}
use Rattle.frontiers.proofs.Walks.{Walking, walking_same, walk_start, walk_step, walk_end, walk_follows, left_of, left_falls, road_low}
use Rattle.sweep.proofs.renewal.Renewal.try_rows.Given as given
use Rattle.sweep.proofs.renewal.Renewal.try_rows.Goals as goal
use Rattle.sweep.proofs.renewal.Renewal.try_rows.Goals.{Start, In-Some}

-- the road that is walked to
road : (g : given.Over) (c : Start g) → Road
road g c = get_or c.args.self.now.roads.now c.args.j unread

is_road : (g : given.Over) (c : Start g) → Numbered c.args.self.now.roads.now c.args.j (road g c)
unfolding road
is_road g c = road_read c.args.self.now.roads.now c.args.j unread c.requires.enters.0

ends : (g : given.Over) (c : Start g) → (road g c).end ≡ c.args.self.now.place
ends g c = (c.requires.enters.1 (road g c) (is_road g c)).1

start_low : (g : given.Over) (c : Start g) → (road g c).start < 2048
start_low g c = (road_low _ _ c.args.self.now.roads.now c.args.self.now.base c.args.self.now.rows.now c.args.j (road g c) c.requires.standing (is_road g c)).0

pub last_at-at-requires : goal.last_at-at-requires
unfolding road
last_at-at-requires g c = start_low g (goal.at.last_at-at-requires g c).Start

pub loop-at-init : goal.loop-at-init
unfolding road
loop-at-init g c =
    let s = (goal.at.loop-at-init g c).Start in
    let r = c.args.self.now in
    let st = c.requires.standing in
    walk_start (g.A.Criterion.meaning r.first.now) (g.B.Criterion.meaning r.second.now) st.first_laws st.second_laws r.roads.now r.base r.rows.now c.args.j r.place (road g s) (is_road g s) (ends g s) c.last_at-at.result c.args.best.now.rows
    (subst (λ o. Latest r.rows.now (length r.rows.now) (road g s).start o) (sym c.last_at-at.ensures) (r.linked.latest (road g s).start (start_low g s)))
    c.requires.held

-- how far the walk has come where it has come to row i
walking : (g : given.Over) (c : In-Some g) → Walking (g.A.Criterion.meaning c.args.self.now.first.now) (g.B.Criterion.meaning c.args.self.now.second.now) c.args.self.now.roads.now c.args.self.now.base c.args.self.now.rows.now c.args.j c.args.self.now.place (get_or c.args.self.now.roads.now c.args.j unread).start (Some c.in-Some.i) c.args.best.now.rows c.loop-at.best.rows
walking g c = walking_same c.in-Some.is c.loop-at.invariant

pub try_row-requires : goal.try_row-requires
unfolding road
try_row-requires g c =
    let s = (goal.at.try_row-requires g c).Start in
    let i = (goal.at.try_row-requires g c).In-Some in
    let r = c.args.self.now in
    let st = c.requires.standing in
    (search rules, (st, walk_follows (g.A.Criterion.meaning r.first.now) (g.B.Criterion.meaning r.second.now) st.first_laws st.second_laws r.roads.now r.base r.rows.now c.args.j r.place (road g s) (is_road g s) (ends g s) c.in-Some.i _ _ c.requires.enters (walking g i)))

pub loop-at-preserved : goal.loop-at-preserved
unfolding road
loop-at-preserved g c =
    let s = (goal.at.loop-at-preserved g c).Start in
    let i = (goal.at.loop-at-preserved g c).In-Some in
    let r = c.args.self.now in
    let st = c.requires.standing in
    walking_same (sym c.before-at.ensures)
    (walk_step (g.A.Criterion.meaning r.first.now) (g.B.Criterion.meaning r.second.now) st.first_laws st.second_laws r.roads.now r.base r.rows.now c.args.j r.place (road g s) (is_road g s) (ends g s) c.in-Some.i r.links.now.last r.links.now.prev c.args.best.now.rows c.loop-at.best.rows c.try_row.new.best.rows
    st r.linked (omega (arith, r.added.low)) (walking g i) c.try_row.ensures)

pub loop-at-smaller : goal.loop-at-smaller
loop-at-smaller g c =
    let r = c.args.self.now in
    let t = c.try_row.ensures in
    let earlier : Latest r.rows.now c.in-Some.i t.row.end c.before-at.result = subst (λ o. Latest r.rows.now c.in-Some.i t.row.end o) (sym c.before-at.ensures) (r.linked.before c.in-Some.i t.row t.extends.row) in
    subst (λ o. left_of c.before-at.result < left_of o) (sym c.in-Some.is) (left_falls r.rows.now c.in-Some.i t.row.end c.before-at.result earlier)

pub returns : goal.returns
unfolding road
returns g c =
    let s = (goal.at.returns g c).Start in
    let r = c.args.self.now in
    let st = c.requires.standing in
    let w = c.loop-at.invariant in
    record {
      kept = w.others;
      held = walk_end (g.A.Criterion.meaning r.first.now) (g.B.Criterion.meaning r.second.now) st.first_laws st.second_laws r.roads.now r.base r.rows.now c.args.j r.place (road g s) (is_road g s) (ends g s) c.args.best.now.rows c.loop-at.best.rows (walking_same c.in_default.is w);
    }
