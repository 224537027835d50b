use Rattle.std.proofs.Common.{rules, tests}
use Rattle.std.proofs.lemmas.Iterator.{YieldsList-from_slice, cases_from_all}
use Rattle.rows.specs.declared.sheet.Sheet.{Sheet}
use Rattle.rows.specs.Sound.{SheetSound}
use Rattle.rows.proofs.Checks.{all_decide}
use Rattle.rows.proofs.soundness.sound.Goals as goal

pub returns-then-has_rows : goal.returns-then-has_rows
returns-then-has_rows g c =
    let P : Sheet → Type 0 = SheetSound (g.A.Criterion.meaning c.args.a.now) (g.B.Criterion.meaning c.args.b.now) c.args.places c.args.roads c.args.table.now in
    let (told, tells) = all_decide P c.args.sheets.now c.all.result (cases_from_all _ _ _ P (λ d. P d → ⊥) c.all.ensures.ran (YieldsList-from_slice c.args.sheets.now cc) (λ x q k. search (rules, tests)) (λ x q k. search (rules, tests))) in
    (λ e. record { long = c.has_rows.ensures.0 c.if-has_rows.true; each = told e }, λ s. tells s.each)
