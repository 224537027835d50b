use Rattle.std.proofs.Common.{◌+◌, length, take, set, sym, refl, subst, arith, length-set, rules}
use Rattle.std.proofs.lemmas.List.{take-set, take_more_set}
use Rattle.growth.specs.Sourced.{Sourced}
use Rattle.growth.proofs.Sources.{sourced_next}
use Rattle.frontiers.specs.Frontiers.{Searching}
use Rattle.frontiers.proofs.Steps.{Forward, forward_linked, stands_again, step_none, step_next, step_low, step_forward}
use Rattle.sweep.proofs.search.Search.advance.Given as given
use Rattle.sweep.proofs.search.Search.advance.Goals as goal
use Rattle.sweep.proofs.search.Search.advance.Goals.{After-link}

pub returns-in_default-clause-advanced : goal.returns-in_default-clause-advanced
returns-in_default-clause-advanced g c =
    let s = c.args.self.now in
    let f = c.args.frontier.now in
    (refl, step_none (g.A.Criterion.meaning s.first.now) (g.B.Criterion.meaning s.second.now) s.roads.now s.places s.origin s.base c.args.rows.now c.args.n f.best.rows f.links.last f.links.prev c.requires.searching c.requires.within c.in_default.ensures)

pub returns-then-is_full-clause-advanced : goal.returns-then-is_full-clause-advanced
returns-then-is_full-clause-advanced g c =
    let s = c.args.self.now in
    let f = c.args.frontier.now in
    (refl, (c.if-is_full.ensures, (refl, (c.in-Some.row, step_next (g.A.Criterion.meaning s.first.now) (g.B.Criterion.meaning s.second.now) s.roads.now s.places s.origin s.base c.args.rows.now c.args.n f.best.rows f.links.last f.links.prev c.requires.searching c.requires.within c.in-Some.row c.in-Some.ensures))))

pub link-requires-clause-low : goal.link-requires-clause-low
link-requires-clause-low g c =
    let s = c.args.self.now in
    let f = c.args.frontier.now in
    step_low (g.A.Criterion.meaning s.first.now) (g.B.Criterion.meaning s.second.now) s.roads.now s.places s.origin s.base c.args.rows.now c.args.n f.best.rows f.links.last f.links.prev c.requires.searching c.requires.within c.in-Some.row c.in-Some.ensures

-- the step, once the row is written and linked
forward : (g : given.Over) (c : After-link g) → Forward (g.A.Criterion.meaning c.args.self.now.first.now) (g.B.Criterion.meaning c.args.self.now.second.now) c.args.self.now.roads.now c.args.self.now.places c.args.self.now.origin c.args.self.now.base (take (c.args.n + 1) (set c.args.rows.now c.args.n c.in-Some.row)) c.args.n c.in-Some.row.end c.args.frontier.now.best.rows c.link.new.self.last c.link.new.self.prev
forward g c =
    let s = c.args.self.now in
    let f = c.args.frontier.now in
    let a = g.A.Criterion.meaning s.first.now in
    let b = g.B.Criterion.meaning s.second.now in
    forward_linked a b s.roads.now s.places s.origin s.base c.link.ensures.last c.link.ensures.prev
    (step_forward a b s.roads.now s.places s.origin s.base c.args.rows.now c.args.n f.best.rows f.links.last f.links.prev c.requires.searching c.requires.within c.in-Some.row c.in-Some.ensures c.if-is_full.ensures c.requires.room f.links.lasts f.links.prevs)

pub renew-requires : goal.renew-requires
renew-requires g c =
    let f = forward g (goal.at.renew-requires g c).After-link in
    (search rules, (omega (arith, length-set c.args.rows.now c.args.n c.in-Some.row, c.if-is_full.ensures), (f.standing, (f.linked, (f.added, f.older)))))

pub returns-clause-advanced : goal.returns-clause-advanced
returns-clause-advanced g c =
    let s = c.args.self.now in
    let a = g.A.Criterion.meaning s.first.now in
    let b = g.B.Criterion.meaning s.second.now in
    let rs = take (c.args.n + 1) (set c.args.rows.now c.args.n c.in-Some.row) in (
      c.if-is_full.ensures,
      (
        take-set c.args.rows.now c.args.n c.in-Some.row,
        subst (λ l. Searching a b s.roads.now s.places s.origin s.base rs c.renew.new.frontier.best.rows l.last l.prev) (sym c.renew.ensures.links)
            (stands_again a b s.roads.now s.places s.origin s.base (forward g (goal.at.returns-clause-advanced g c).After-link) c.renew.ensures.ready),
      ),
    )

pub returns-clause-sourced : goal.returns-clause-sourced
returns-clause-sourced g c = λ h.
    let s = c.args.self.now in
    let f = c.args.frontier.now in
    let a = g.A.Criterion.meaning s.first.now in
    let b = g.B.Criterion.meaning s.second.now in
    let x = c.in-Some.row in
    let next = step_next a b s.roads.now s.places s.origin s.base c.args.rows.now c.args.n f.best.rows f.links.last f.links.prev c.requires.searching c.requires.within x c.in-Some.ensures in
    subst (Sourced (length s.roads.now) s.base) (sym (take_more_set c.args.rows.now c.args.n x c.if-is_full.ensures)) (sourced_next a b s.roads.now s.base (take c.args.n c.args.rows.now) x h next)
