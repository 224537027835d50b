use Rattle.std.proofs.Common.{◌-◌, ◌<◌, refl, sym, subst, arith}
use Rattle.book.specs.Sweeping.{OneMore, Entered}
use Rattle.book.proofs.Entering.{turned_down, entered}
use Rattle.book.proofs.book.Book.sweep.Goals as goal

pub returns-in_err-len : goal.returns-in_err-len
returns-in_err-len g c =
    let a = g.A.Criterion.meaning c.args.self.now.first in
    let b = g.B.Criterion.meaning c.args.self.now.second in
    let (e, by) = c.from_residual.ensures in
    let inside : c.args.origin < c.args.self.now.network.places = omega (arith, c.if-origin-places.false, c.places-places.ensures) in
    turned_down a b c.args.self.now c.args.roads.now c.args.rows.now c.fill.new.rows c.args.origin (c.if-not-is_served.ensures.0 refl) inside c.if-is_full.ensures c.from_residual.result c.in_err-len.field-0.0 e by c.in_err-len.ensures

pub returns : goal.returns
returns g c =
    let a = g.A.Criterion.meaning c.args.self.now.first in
    let b = g.B.Criterion.meaning c.args.self.now.second in
    let inside : c.args.origin < c.args.self.now.network.places = omega (arith, c.if-origin-places.false, c.places-places.ensures) in
    let one = subst (λ n. OneMore c.args.self.now c.enter.new.self (record { origin = c.args.origin; reach = n - 1; start = c.args.self.now.used; len = c.in_ok-len.len })) c.places-places.ensures c.enter.ensures in
    let new = c.enter.new.self in
    subst (λ n. Entered a b c.args.self.now new c.args.roads.now c.args.rows.now c.fill.new.rows c.args.origin (record { sheet = n; rows = c.in_ok-len.len })) (sym c.len-sheet.ensures.value)
    (entered a b c.args.self.now c.args.roads.now c.args.rows.now c.fill.new.rows c.args.origin (c.if-not-is_served.ensures.0 refl) inside c.if-is_full.ensures c.in_ok-len.len c.in_ok-len.ensures new one)
