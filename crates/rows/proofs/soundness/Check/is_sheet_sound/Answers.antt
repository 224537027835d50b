use Rattle.std.proofs.Common.{refl, ap, ◌∙◌, ℕ, ◌-◌}
use Rattle.std.proofs.lemmas.Bool.{false≢true}
use Rattle.std.proofs.lemmas.Iterator.{YieldsList-from_range, cases_from_all}
use Rattle.rows.specs.Sound.{LawfulAt}
use Rattle.rows.proofs.Checks.{range_decides, sheet_decides}
use Rattle.rows.proofs.soundness.Check.is_sheet_sound.Goals as goal

pub returns : goal.returns
returns g c =
    let s = c.args.self.now in
    let a = g.A.Criterion.meaning s.first.now in
    let b = g.B.Criterion.meaning s.second.now in
    let t = c.args.table.now in
    let sheet = c.args.sheet.now in
    let P : ℕ → Type 0 = LawfulAt a b s.places s.roads t sheet.reach in
    let n = c.end.result - sheet.start in
    -- a call leaves what the closure holds
    let all = cases_from_all _ _ _ P (λ k. P k → ⊥) c.all.ensures.ran (YieldsList-from_range sheet.start c.end.result n (cc) refl) (λ x q k. (ap (λ v. (v, q.1, q.2)) k.met.0.0 ∙ ap (λ v. (c.args.self, v, q.2)) k.met.0.1 ∙ ap (λ v. (c.args.self, c.args.table, v)) k.met.0.2, k.met.1.0 refl)) (λ x q k p. false≢true (k.met.1.1 p)) in
    sheet_decides a b s.places s.roads t sheet c.end.result c.all.result c.end.ensures.end (range_decides P sheet.start n c.all.result all)
