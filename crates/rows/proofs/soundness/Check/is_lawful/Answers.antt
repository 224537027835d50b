use Rattle.std.proofs.Common.{arith}
use Rattle.rows.specs.Sound.{LawfulRow}
use Rattle.rows.proofs.Checks.{one_row, made_cut}
use Rattle.rows.proofs.Sources.{item_at}
use Rattle.rows.proofs.soundness.Check.is_lawful.Goals as goal

pub returns-then-is_fit : goal.returns-then-is_fit
returns-then-is_fit g c =
    let s = c.args.self.now in
    let a = g.A.Criterion.meaning s.first.now in
    let b = g.B.Criterion.meaning s.second.now in
    let t = c.args.table.now in
    let k = c.args.k in
    let r = c.index-table-k.result in
    let (told, tells) = c.makes.ensures in
    let (into, out) = made_cut t k (omega (arith, c.requires)) s.roads r.roads r.source in
    one_row t k r (LawfulRow a b s.places s.roads t c.args.reach k) c.makes.result (item_at t k r c.index-table-k.is c.requires) (
      λ e. record { fits = c.is_fit.ensures.0 c.if-is_fit.true; made = into (told e) },
      λ l. tells (out l.made),
    )
