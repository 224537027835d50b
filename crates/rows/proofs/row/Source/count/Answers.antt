use Rattle.std.proofs.Common.{◌≡◌, ℕ, ◌+◌, ◌↔◌, length, Some, sym, ◌∙◌, subst}
use Rattle.rows.specs.Sound.{Made}
use Rattle.rows.proofs.Sources.{before_read, extended_iff, paired_iff, taken_iff}
use Rattle.rows.proofs.row.Source.count.Goals as goal

pub returns-in_ok-roads_of-in-Extend : goal.returns-in_ok-roads_of-in-Extend
returns-in_ok-roads_of-in-Extend g c =
    let t = c.args.earlier.now in
    let m = c.in_ok-roads_of-in-Extend.field-0 in
    subst (λ s. (n : ℕ) → (Some (m + 1) ≡ Some n) ↔ Made c.args.roads t (length t) n s) (sym c.in-Extend.is)
    (extended_iff c.args.roads t (length t) c.in-Extend.row c.in-Extend.road m (before_read t c.in-Extend.row m (sym c.roads_of.ensures.value ∙ c.in_ok-roads_of-in-Extend.was)) c.if-road-roads.true)

pub returns-in_ok-roads_of-in-Pair-2 : goal.returns-in_ok-roads_of-in-Pair-2
returns-in_ok-roads_of-in-Pair-2 g c =
    let t = c.args.earlier.now in
    let l = c.in_ok-roads_of-in-Pair.field-0 in
    let m = c.in_ok-roads_of-in-Pair-2.field-0 in
    subst (λ s. (n : ℕ) → (Some (l + m) ≡ Some n) ↔ Made c.args.roads t (length t) n s) (sym c.in-Pair.is)
    (paired_iff t (length t) c.in-Pair.left c.in-Pair.right l m (before_read t c.in-Pair.left l (sym c.roads_of-in-Pair.ensures.value ∙ c.in_ok-roads_of-in-Pair.was)) (before_read t c.in-Pair.right m (sym c.roads_of-in-Pair-2.ensures.value ∙ c.in_ok-roads_of-in-Pair-2.was)))

pub returns-in-Taken : goal.returns-in-Taken
returns-in-Taken g c =
    let t = c.args.earlier.now in
    subst (λ s. (n : ℕ) → (c.roads_of-in-Taken.result ≡ Some n) ↔ Made c.args.roads t (length t) n s) (sym c.in-Taken.is)
    (taken_iff t c.in-Taken.row c.roads_of-in-Taken.result c.roads_of-in-Taken.ensures.value)
