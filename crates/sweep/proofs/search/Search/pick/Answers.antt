use Rattle.std.proofs.Common.{◌≡◌, ℕ, ◌+◌, List, get_or, Some, None, Option, sym, subst, ◌∙◌, arith}
use Rattle.std.proofs.lemmas.List.{get_or-take, get_or_default, length-take-le}
use Rattle.std.specs.Option.{option_copied}
use Rattle.criteria.specs.Meaning.{Meaning}
use Rattle.rows.specs.declared.row.Row.{Row}
use Rattle.frontiers.specs.Frontiers.{Chosen}
use Rattle.sweep.proofs.search.Search.pick.Goals as goal
use Rattle.sweep.proofs.search.Search.pick.Goals.{in-Some, in_default}

-- a place that holds nothing leaves the choice
passed : {V W : Type 0} (a : Meaning V) (b : Meaning W) (n : ℕ) (best : List (Option (Row V W))) (o : Option (Row V W)) → get_or best n None ≡ None → Chosen a b n best o → Chosen a b (n + 1) best o
passed a b n best None none chosen = grind arith
passed a b n best (Some c) none chosen = grind arith

pub loop-held-preserved : goal.loop-held-preserved
loop-held-preserved g c =
    let a = g.A.Criterion.meaning c.args.self.now.first.now in
    let b = g.B.Criterion.meaning c.args.self.now.second.now in
    let best = c.args.best.now.rows in
    let n = c.loop-held.held-index in
    let here : get_or best n None ≡ c.held-item.result = grind (arith, get_or-take, get_or_default, length-take-le) in
    elim c.match-held.branch [
      | in-Some w ↦ subst (λ o. Chosen a b (n + 1) best (option_copied o)) (sym w.choice-is) (w.better.ensures n best (here ∙ w.in-Some.is) c.loop-held.invariant)
      | in_default w ↦ subst (λ o. Chosen a b (n + 1) best (option_copied o)) (sym w.choice-is) (passed a b n best (option_copied c.loop-held.choice) (here ∙ w.in_default.is) c.loop-held.invariant)
    ]
