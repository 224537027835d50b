use Rattle.std.proofs.lemmas.Result.{err_from_is_err_and}
use Rattle.yard.proofs.Found.{found, missed}
use Rattle.yard.proofs.calls.row_of_yard.Goals as goal

pub returns-in_err-row : goal.returns-in_err-row
returns-in_err-row c =
    let p = err_from_is_err_and c.from_residual-in_err-row.result c.from_residual-in_err-row.ensures.1 in
    rw (p.1, p.2) (missed c.in_ok-book.book c.list.new.rows c.in_ok-book.ensures.2 c.args.place c.args.index c.in_err-row.field-0.0 c.in_err-row.ensures)

pub returns : goal.returns
returns c =
    found c.in_ok-book.book c.list.new.rows c.in_ok-book.ensures.2 c.args.place c.args.index c.in_ok-row.row.now c.in_ok-row.ensures
