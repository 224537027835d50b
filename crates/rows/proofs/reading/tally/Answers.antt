use Rattle.std.proofs.Common.{◌+◌, sym, refl, subst}
use Rattle.rows.proofs.Sources.{item_at}
use Rattle.rows.proofs.Counts.{Counted, counted_here, counted_not}
use Rattle.rows.proofs.reading.tally.Goals as goal
use Rattle.rows.proofs.reading.tally.Goals.{then-row-place, else-row-place}

pub loop-row-preserved : goal.loop-row-preserved
loop-row-preserved g c =
    let t = c.args.rows.now in
    let k = c.loop-row.row-index in
    let r = c.row-item.result in
    let at = item_at t k r c.row-item.is c.loop-row-test.true in
    elim c.if-row-place.branch [
      | then-row-place w ↦ subst (Counted c.args.place t (k + 1)) (sym w.count-is) (counted_here c.args.place t k (k + 1) c.loop-row.count r c.loop-row.invariant refl at w.if-row-place.true)
      | else-row-place w ↦ subst (Counted c.args.place t (k + 1)) (sym w.count-is) (counted_not c.args.place t k (k + 1) c.loop-row.count r c.loop-row.invariant refl at w.if-row-place.false)
    ]
