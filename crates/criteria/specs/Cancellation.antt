-- Steadiness in another form.
use Rattle.criteria.specs.Meaning.{Meaning, Steadiness}

-- a value that is joined on the same side of two can be taken away again
pub record Cancels {V : Type 0} (m : Meaning V) : Type 0 where
  pub before : (x y z : V) → m.good (m.join z x) (m.join z y) → m.good x y
  pub after : (x y z : V) → m.good (m.join x z) (m.join y z) → m.good x y

-- law 5 is the same as this
pub record SteadyIsCancelling {V : Type 0} (m : Meaning V) : Type 0 where
  pub cancels : Steadiness m → Cancels m
  pub steady : Cancels m → Steadiness m
