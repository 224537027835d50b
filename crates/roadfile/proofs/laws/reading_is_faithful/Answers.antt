use Rattle.roadfile.proofs.Faith as faith
use Rattle.roadfile.proofs.laws.reading_is_faithful.Goals as goal

pub returns : goal.returns
returns c = faith.reading_is_faithful_lem
