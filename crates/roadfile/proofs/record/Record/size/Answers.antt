use Rattle.std.proofs.Common.{length, sym, ap, ◌∙◌, subst}
use Rattle.roadfile.specs.Format.{written, entry, Proper}
use Rattle.roadfile.proofs.Records.{road_length}
use Rattle.roadfile.proofs.record.Record.size.Goals as goal

pub returns-in-Road : goal.returns-in-Road
returns-in-Road c =
    let is = c.in-Road.is in
    sym (ap (λ r. length (written (entry r))) is ∙ road_length _ _ _ (subst (λ r. Proper (entry r)) is c.requires))
