use Rattle.std.proofs.Common.{subst}
use Rattle.rows.specs.Places.{Position}
use Rattle.rows.proofs.Counts.{stands_at}
use Rattle.rows.proofs.reading.find_at.Goals as goal

pub returns : goal.returns
returns g c =
    stands_at c.args.sheet.now c.args.table.now c.args.place c.args.index c.in_ok-k.k (subst (λ l. Position l c.args.place c.args.index c.in_ok-k.k) c.part.ensures.rows c.in_ok-k.ensures)
