use Rattle.printout.proofs.OneRecord.{one_record_lem}
use Rattle.printout.proofs.laws.one_record.Goals as goal

pub returns : goal.returns
returns c = one_record_lem c.one_page.ensures c.one_outcome.ensures
