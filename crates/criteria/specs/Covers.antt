-- Pairs of values, one by each of two criteria.
use Rattle.criteria.specs.Meaning.{Meaning, Strict}

-- a pair covers another if it is at least as good by both criteria
pub record Covers {V W : Type 0} (a : Meaning V) (b : Meaning W) (p q : V × W) : Type 0 where
  pub first : a.good p.0 q.0
  pub second : b.good p.1 q.1

-- p stands before q in a list: p is strictly better by the first criterion, and q by the second
pub record Precedes {V W : Type 0} (a : Meaning V) (b : Meaning W) (p q : V × W) : Type 0 where
  pub first : Strict a.good p.0 q.0
  pub second : Strict b.good q.1 p.1
