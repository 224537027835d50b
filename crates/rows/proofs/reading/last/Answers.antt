use Rattle.std.proofs.Common.{◌≡◌, ◌+◌, ◌-◌, length, refl, subst, arith}
use Rattle.std.proofs.lemmas.List.{take_all}
use Rattle.rows.specs.Places.{RowAt, rows_at}
use Rattle.rows.proofs.Sources.{item_at, same_row}
use Rattle.rows.proofs.Counts.{LastBefore, last_here, last_not}
use Rattle.rows.proofs.reading.last.Goals as goal
use Rattle.rows.proofs.reading.last.Goals.{then-row-place, else-row-place}

pub loop-k-init : goal.loop-k-init
loop-k-init g c = record { few = omega arith; none = λ z. refl; some = λ k is. absurd (omega (arith, is)) }

pub loop-k-preserved : goal.loop-k-preserved
loop-k-preserved g c =
    let t = c.args.rows.now in
    let k = c.loop-k.k in
    let r = c.index-rows-k.result in
    let at = item_at t k r c.index-rows-k.is c.loop-k-test.true in
    let place = c.args.place in
    let behind = c.loop-k.behind in
    elim c.if-row-place.branch [
      | then-row-place w ↦
          let next : k + 1 ≡ c.max-behind.result = omega (arith, w.here-is, c.max-behind.ensures, c.loop-k.invariant.few) in
          subst (LastBefore place t (k + 1)) next (last_here place t k (k + 1) r refl at w.if-row-place.true)
      | else-row-place w ↦
          let same : behind ≡ c.max-behind.result = omega (arith, w.here-is, c.max-behind.ensures) in
          subst (LastBefore place t (k + 1)) same (last_not place t k (k + 1) behind r c.loop-k.invariant refl at w.if-row-place.false)
    ]

pub returns : goal.returns
returns g c =
    let t = c.args.rows.now in
    let place = c.args.place in
    let l = c.loop-k.invariant in
    let (some, is) = c.in_ok-k.ensures in
    let (r, stands, last) = l.some c.in_ok-k.k (omega (arith, some, is)) in
    let found = c.index-rows-k-2.result in
    let same = same_row t c.in_ok-k.k r found stands (item_at t c.in_ok-k.k found c.index-rows-k-2.is stands.0) in
    subst (RowAt (rows_at place t) (length (rows_at place t) - 1)) same
    (subst (λ all. RowAt (rows_at place all) (length (rows_at place all) - 1) r) (take_all c.loop-k.k t (omega (arith, c.loop-k-test.false))) last)
