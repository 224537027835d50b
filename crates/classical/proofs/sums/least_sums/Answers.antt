use Rattle.classical.proofs.BestRows.{made_from, has_least_sums}
use Rattle.classical.proofs.sums.least_sums.Goals as goal

pub returns : goal.returns
returns c = record {
  same = c.best_by_first.ensures;
  optimum = made_from c.best_by_first.result _ _ _ c.best_by_first.ensures (λ x h. has_least_sums c.args.book.now c.args.rows.now c.args.sheet c.args.place x.now h);
}
