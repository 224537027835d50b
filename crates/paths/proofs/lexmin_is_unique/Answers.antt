use Rattle.paths.proofs.Lexicographic.{unique_lexmin}
use Rattle.paths.proofs.lexmin_is_unique.Goals as goal

pub returns : goal.returns
returns c = unique_lexmin
