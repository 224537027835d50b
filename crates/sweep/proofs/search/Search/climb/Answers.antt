use Rattle.std.proofs.Common.{◌≡◌, length, take, Ok, sym, ap, ◌∙◌, subst, inr, arith}
use Rattle.std.proofs.lemmas.List.{take_all}
use Rattle.std.proofs.lemmas.Result.{err_from_is_err_and}
use Rattle.frontiers.specs.Frontiers.{Grew, Searched}
use Rattle.growth.specs.Growing.{Fresh, Next}
use Rattle.sweep.specs.Steps.{Advanced}
use Rattle.sweep.proofs.search.Search.climb.Goals as goal

pub returns-clause-searched : goal.returns-clause-searched
returns-clause-searched g c =
    let r = c.args.self.now in
    let a = g.A.Criterion.meaning r.first.now in
    let b = g.B.Criterion.meaning r.second.now in
    let s = c.loop-n.invariant.searching in
    let (same, none) = subst (λ t. Advanced a b r.roads.now r.places r.origin r.base c.loop-n.n c.loop-n.rows c.advance.new.rows c.advance.new.frontier.best.rows c.advance.new.frontier.links.last c.advance.new.frontier.links.prev (Ok t)) c.if-branch.false c.in_ok-advance.ensures.advanced in (
      omega (arith, c.loop-n.invariant.within, c.loop-n.auto.rows, ap length same),
      (
        subst (λ l. Grew a b r.roads.now r.places r.origin r.base (take c.loop-n.n l)) (sym same) (record { standing = s.standing; same_places = s.same_places; same_origin = s.same_origin }),
        λ z f. none z (subst (λ l. Fresh a b r.roads.now r.base (take c.loop-n.n l) z) same f),
      ),
    )

pub returns-in_err-advance-clause-searched : goal.returns-in_err-advance-clause-searched
returns-in_err-advance-clause-searched g c =
    let r = c.args.self.now in
    let a = g.A.Criterion.meaning r.first.now in
    let b = g.B.Criterion.meaning r.second.now in
    let s = c.loop-n.invariant.searching in
    let (_, (full, (same, (x, next)))) = c.in_err-advance.ensures.advanced in
    let all : take c.loop-n.n c.loop-n.rows ≡ c.advance.new.rows = take_all c.loop-n.n c.loop-n.rows full ∙ sym same in
    let p = err_from_is_err_and c.from_residual.result c.from_residual.ensures.1 in
    subst (Searched a b r.roads.now r.places r.origin r.base c.advance.new.rows) (sym p.1) (inr (
      subst (λ l. Grew a b r.roads.now r.places r.origin r.base l) all (record { standing = s.standing; same_places = s.same_places; same_origin = s.same_origin }),
      (x, subst (λ l. Next a b r.roads.now r.base l x) all next),
    ))
