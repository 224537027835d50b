use Rattle.std.specs.Option.{option_copied}
use Rattle.frontiers.specs.Frontiers.{Chosen}
use Rattle.sweep.proofs.search.Search.pick.Given as goal

abbrev pub invariant-loop-held : goal.invariant-loop-held
invariant-loop-held g l = Chosen (g.A.Criterion.meaning l.self.first.now) (g.B.Criterion.meaning l.self.second.now) l.held-index l.best.rows (option_copied l.choice)
