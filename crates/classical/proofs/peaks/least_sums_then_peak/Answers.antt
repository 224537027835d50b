use Rattle.classical.proofs.BestRows.{made_from, has_least_sums_then_peak}
use Rattle.classical.proofs.peaks.least_sums_then_peak.Goals as goal

pub returns : goal.returns
returns c = record {
  same = c.best_by_first.ensures;
  optimum = made_from c.best_by_first.result _ _ _ c.best_by_first.ensures (λ x h. has_least_sums_then_peak c.args.book.now c.args.rows.now c.args.sheet c.args.place x.now h);
}
