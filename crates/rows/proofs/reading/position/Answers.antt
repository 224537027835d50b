use Rattle.std.proofs.Common.{◌+◌, sym, refl, subst, arith}
use Rattle.rows.specs.Places.{RowAt, rows_at}
use Rattle.rows.proofs.Sources.{item_at}
use Rattle.rows.proofs.Counts.{Counted, counted_here, counted_not, among_at}
use Rattle.rows.proofs.reading.position.Goals as goal
use Rattle.rows.proofs.reading.position.Goals.{then-row-place+else-before-index, else-row-place}

pub returns-then-before-index : goal.returns-then-before-index
returns-then-before-index g c =
    let t = c.args.rows.now in
    let k = c.loop-k.k in
    let r = c.index-rows-k.result in
    let at = item_at t k r c.index-rows-k.is c.loop-k-test.true in
    record { row = r; stands = at; among = subst (λ i. RowAt (rows_at c.args.place t) i r) c.if-before-index.true (among_at c.args.place t k c.loop-k.before r c.loop-k.invariant.0 at c.if-row-place.true) }

pub loop-k-preserved : goal.loop-k-preserved
loop-k-preserved g c =
    let t = c.args.rows.now in
    let k = c.loop-k.k in
    let r = c.index-rows-k.result in
    let at = item_at t k r c.index-rows-k.is c.loop-k-test.true in
    elim c.if-row-place.branch [
      | then-row-place+else-before-index w ↦ (subst (Counted c.args.place t (k + 1)) (sym w.before-is) (counted_here c.args.place t k (k + 1) c.loop-k.before r c.loop-k.invariant.0 refl at w.if-row-place.true), omega (arith, w.before-is, w.if-before-index.false, c.loop-k.invariant.1))
      | else-row-place w ↦ (subst (Counted c.args.place t (k + 1)) (sym w.before-is) (counted_not c.args.place t k (k + 1) c.loop-k.before r c.loop-k.invariant.0 refl at w.if-row-place.false), omega (arith, w.before-is, c.loop-k.invariant.1))
    ]
