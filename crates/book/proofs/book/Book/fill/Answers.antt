use Rattle.std.proofs.Common.{◌≡◌, ◌-◌, length, take, drop, refl, ◌∙◌, subst, arith, length-drop, length-take}
use Rattle.sweep.specs.Sweeps.{Swept}
use Rattle.book.specs.Sweeping.{unused}
use Rattle.book.proofs.book.Book.fill.Given as given
use Rattle.book.proofs.book.Book.fill.Goals as goal
use Rattle.book.proofs.book.Book.fill.Goals.{After-min-end}

-- so many rows are lent
lent : (g : given.Over) (c : After-min-end g) → length (take (c.min-end.result - c.args.self.now.used) (drop c.args.self.now.used c.args.rows.now)) ≡ unused c.args.self.now c.args.rows.now
lent g c = simp (length-take, length-drop) (omega (arith, c.min-end.ensures, c.requires))

pub returns : goal.returns
returns g c =
    let long = lent g (goal.at.returns g c).After-min-end in
    record {
      free = c.sweep.new.free;
      rest = _;
      long = c.sweep.auto.free ∙ long;
      table = refl;
      swept = subst (λ n. Swept (g.A.Criterion.meaning c.args.self.now.first) (g.B.Criterion.meaning c.args.self.now.second) c.args.self.now.network c.args.roads.now c.args.self.now.used n c.args.origin c.sweep.result c.sweep.new.free) long c.sweep.ensures.swept;
      lawful = c.sweep.ensures.lawful;
    }
