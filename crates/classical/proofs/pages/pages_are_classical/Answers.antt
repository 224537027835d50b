use Rattle.classical.proofs.Lists.{pages_are_classical_lem, every_set_has_the_page}
use Rattle.classical.proofs.pages.pages_are_classical.Goals as goal

pub returns : goal.returns
returns c = record { listed = pages_are_classical_lem; every = every_set_has_the_page }
