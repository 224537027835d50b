use Rattle.std.proofs.Common.{◌+◌, ◌<◌, ◌≤◌, length, take, IfOk, sym, refl, subst, arith, rules}
use Rattle.std.proofs.lemmas.List.{length-take-le}
use Rattle.roads.specs.Networks.{Serving}
use Rattle.roads.specs.Tables.{Serves}
use Rattle.growth.specs.Sourced.{Sourced}
use Rattle.frontiers.specs.Frontiers.{Founded, Searched}
use Rattle.sweep.proofs.Sweeps.{founded, swept_by, lawful_by}
use Rattle.sweep.proofs.sweeping.sweep.Given as given
use Rattle.sweep.proofs.sweeping.sweep.Goals as goal
use Rattle.sweep.proofs.sweeping.sweep.Goals.{Else-origin-places, After-grow}

-- the road table serves the network
serving : (g : given.Over) (c : Else-origin-places g) → Serving c.args.network.now c.args.roads.now
serving g c = subst (λ p. Serves p c.args.network.now.roads c.args.roads.now) c.places-places.ensures (subst (λ n. Serves c.places-places.result n c.args.roads.now) c.roads-count.ensures (c.if-not-serves.ensures.0 refl))

inside : (g : given.Over) (c : Else-origin-places g) → c.args.origin < c.args.network.now.places
inside g c = omega (arith, c.places-places.ensures, c.if-origin-places.false)

fits : (g : given.Over) (c : Else-origin-places g) → c.args.used + length c.args.free.now ≤ 65536
fits g c = c.if-passes_end.ensures

pub slice_bounds-search-end : goal.slice_bounds-search-end
slice_bounds-search-end g c = sym (length-take-le c.roads-count.result c.args.roads.now (c.if-not-serves.ensures.0 refl).long)

pub grow-requires : goal.grow-requires
grow-requires g c =
    let s = (goal.at.grow-requires g c).Else-origin-places in
    let a = g.A.Criterion.meaning c.args.a.now in
    let b = g.B.Criterion.meaning c.args.b.now in
    let n = c.args.network.now in
    let f = founded a b n c.args.roads.now c.args.origin c.args.used (serving g s) (inside g s) c.laws_stand.ensures c.laws_stand-2.ensures (length c.args.free.now) (fits g s) n.places_fit n.roads_fit in
    (search rules, subst (λ k. Founded a b (take k c.args.roads.now) c.places-places.result c.args.origin c.args.used (length c.args.free.now)) (sym c.roads-count.ensures) (subst (λ p. Founded a b (take n.roads c.args.roads.now) p c.args.origin c.args.used (length c.args.free.now)) (sym c.places-places.ensures) f))

-- what was found over the counted roads
found : (g : given.Over) (c : After-grow g) → Searched (g.A.Criterion.meaning c.args.a.now) (g.B.Criterion.meaning c.args.b.now) (take c.args.network.now.roads c.args.roads.now) c.args.network.now.places c.args.origin c.args.used c.grow.new.rows c.grow.result
found g c =
    let a = g.A.Criterion.meaning c.args.a.now in
    let b = g.B.Criterion.meaning c.args.b.now in
    let n = c.args.network.now in
    subst (λ k. Searched a b (take k c.args.roads.now) n.places c.args.origin c.args.used c.grow.new.rows c.grow.result) c.roads-count.ensures
    (subst (λ p. Searched a b (take c.roads-count.result c.args.roads.now) p c.args.origin c.args.used c.grow.new.rows c.grow.result) c.places-places.ensures c.grow.ensures.searched)

pub returns-clause-swept : goal.returns-clause-swept
returns-clause-swept g c =
    let s = (goal.at.returns-clause-swept g c).Else-origin-places in
    let a = g.A.Criterion.meaning c.args.a.now in
    let b = g.B.Criterion.meaning c.args.b.now in
    swept_by a b c.args.network.now c.args.roads.now c.args.origin c.args.used (serving g s) (inside g s) c.laws_stand.ensures c.laws_stand-2.ensures (length c.args.free.now) c.grow.new.rows c.grow.result (fits g s) c.grow.auto.rows (found g (goal.at.returns-clause-swept g c).After-grow) c.grow.ensures.full

pub returns-clause-lawful : goal.returns-clause-lawful
returns-clause-lawful g c =
    let s = (goal.at.returns-clause-lawful g c).Else-origin-places in
    let a = g.A.Criterion.meaning c.args.a.now in
    let b = g.B.Criterion.meaning c.args.b.now in
    lawful_by a b c.args.network.now c.args.roads.now c.args.origin c.args.used (serving g s) (inside g s) c.laws_stand.ensures c.laws_stand-2.ensures c.grow.new.rows c.grow.result (found g (goal.at.returns-clause-lawful g c).After-grow)
    (subst (λ k. IfOk c.grow.result (λ count. Sourced (length (take k c.args.roads.now)) c.args.used (take count c.grow.new.rows))) c.roads-count.ensures c.grow.ensures.sourced)
