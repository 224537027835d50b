use Rattle.classical.proofs.BestRows.{made_from, has_least_peak_then_sums}
use Rattle.classical.proofs.peaks.least_peak_then_sums.Goals as goal

pub returns : goal.returns
returns c = record {
  same = c.best_by_second.ensures;
  optimum = made_from c.best_by_second.result _ _ _ c.best_by_second.ensures (λ x h. has_least_peak_then_sums c.args.book.now c.args.rows.now c.args.sheet c.args.place x.now h);
}
