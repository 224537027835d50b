use Rattle.std.proofs.lemmas.Result.{err_from_is_err_and}
use Rattle.filecases.proofs.script.byte.Goals as goal

-- no byte has a letter for a digit that is none
pub returns-in_err-x : goal.returns-in_err-x
returns-in_err-x c =
    let p = err_from_is_err_and c.from_residual.result c.from_residual.ensures.1 in
    rw p.1 (λ b d. c.in_err-x.ensures d.0 d.2)

pub returns-in_err-y : goal.returns-in_err-y
returns-in_err-y c =
    let p = err_from_is_err_and c.from_residual-in_err-y.result c.from_residual-in_err-y.ensures.1 in
    rw p.1 (λ b d. c.in_err-y.ensures d.1 d.3)
