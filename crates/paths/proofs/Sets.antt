-- Minimal complete sets have the same values.
use Rattle.std.proofs.Common.{sym, refl, ⊎_elim}
use Rattle.paths.specs.Sets.{MinimalSetsAgree}
use Rattle.paths.proofs.Lookup.{lookup}

pub minimal_sets_agree_lem : MinimalSetsAgree
minimal_sets_agree_lem f g roads s e S T left right i p h =
    let here = left.complete.efficient i p h in
    ⊎_elim
    (λ (j, there). (j, (p, (there, record { first = refl; second = refl }))))
    (λ none.
    let (j, (q, (there, how))) = right.complete.outside p here.path none in
    ⊎_elim
    (λ worse. absurd (here.best q (right.complete.efficient j q there).path worse))
    (λ same. (j, (q, (there, record { first = sym same.first; second = sym same.second }))))
    how)
    (lookup T p)
