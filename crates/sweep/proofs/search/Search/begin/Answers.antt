use Rattle.std.proofs.Common.{length, get_or, take, set, replicate, Some, None, sym, subst, ap, ◌∙◌, arith, length-set, rules}
use Rattle.std.proofs.lemmas.List.{take_more_set}
use Rattle.growth.specs.Sourced.{Sourced}
use Rattle.growth.proofs.Sources.{sourced_first}
use Rattle.frontiers.specs.Frontiers.{Searching}
use Rattle.frontiers.proofs.Begins.{begin_forward}
use Rattle.frontiers.proofs.Steps.{Forward, forward_linked, stands_again}
use Rattle.sweep.proofs.search.Search.begin.Given as given
use Rattle.sweep.proofs.search.Search.begin.Goals as goal
use Rattle.sweep.proofs.search.Search.begin.Goals.{After-link}

-- the first step, once the row is written and linked
forward : (g : given.Over) (c : After-link g) → Forward (g.A.Criterion.meaning c.args.self.now.first.now) (g.B.Criterion.meaning c.args.self.now.second.now) c.args.self.now.roads.now c.args.self.now.places c.args.self.now.origin c.args.self.now.base (take 1 (set c.args.rows.now 0 c.empty_row.result)) 0 c.args.self.now.origin c.clear.new.frontier.best.rows c.link.new.self.last c.link.new.self.prev
forward g c =
    let s = c.args.self.now in
    let a = g.A.Criterion.meaning s.first.now in
    let b = g.B.Criterion.meaning s.second.now in
    let row = c.empty_row.result in
    let fresh = c.clear.new.frontier.links in
    let after = c.link.new.self in
    let none = replicate 2048 None in
    let el = c.link.ensures.last ∙ ap (λ l. set l s.origin (Some 0)) c.clear.ensures.last in
    let ep = c.link.ensures.prev ∙ ap (λ l. set fresh.prev 0 (get_or l s.origin None)) c.clear.ensures.last in
    subst (λ x. Forward a b s.roads.now s.places s.origin s.base (take 1 (set c.args.rows.now 0 row)) 0 s.origin x after.last after.prev) (sym c.clear.ensures.best)
    (subst (λ rs. Forward a b s.roads.now s.places s.origin s.base rs 0 s.origin none after.last after.prev) (sym (take_more_set c.args.rows.now 0 row c.requires.some))
    (forward_linked a b s.roads.now s.places s.origin s.base el ep (begin_forward a b s.roads.now s.places s.origin s.base (length c.args.rows.now) c.requires.founded c.requires.some row c.empty_row.ensures fresh.prev fresh.prevs)))

pub renew-requires : goal.renew-requires
renew-requires g c =
    let f = forward g (goal.at.renew-requires g c).After-link in
    (search rules, (omega (arith, length-set c.args.rows.now 0 c.empty_row.result, c.requires.some), (f.standing, (f.linked, (f.added, f.older)))))

pub returns-clause-stands : goal.returns-clause-stands
returns-clause-stands g c =
    let s = c.args.self.now in
    let a = g.A.Criterion.meaning s.first.now in
    let b = g.B.Criterion.meaning s.second.now in
    subst (λ l. Searching a b s.roads.now s.places s.origin s.base (take 1 (set c.args.rows.now 0 c.empty_row.result)) c.renew.new.frontier.best.rows l.last l.prev) (sym c.renew.ensures.links)
    (stands_again a b s.roads.now s.places s.origin s.base (forward g (goal.at.returns-clause-stands g c).After-link) c.renew.ensures.ready)

pub returns-clause-sourced : goal.returns-clause-sourced
returns-clause-sourced g c =
    let s = c.args.self.now in
    let x = c.empty_row.result in
    subst (Sourced (length s.roads.now) s.base) (sym (take_more_set c.args.rows.now 0 x c.requires.some)) (sourced_first (g.A.Criterion.meaning s.first.now) (g.B.Criterion.meaning s.second.now) (length s.roads.now) s.base s.origin x c.empty_row.ensures)
