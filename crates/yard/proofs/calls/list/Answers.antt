use Rattle.std.proofs.lemmas.Result.{err_from_is_err_and}
use Rattle.yard.proofs.Listings.{refused, accepted}
use Rattle.yard.proofs.calls.list.Goals as goal

pub returns-in_err-added : goal.returns-in_err-added
returns-in_err-added c =
    let p = err_from_is_err_and c.from_residual.result c.from_residual.ensures.1 in
    rw (p.1, p.2) (refused c.open-book.result.0 c.open-book.result.1 c.args.rows.now c.open-book.ensures c.in_err-added.field-0.0 c.in_err-added.ensures.0)

pub returns : goal.returns
returns c =
    accepted c.open-book.result.0 c.open-book.result.1 c.args.rows.now c.open-book.ensures c.sweep.new.self c.sweep.new.rows c.in_ok-added.added c.in_ok-added.ensures
