-- The meaning of Sum.
use Rattle.std.specs.Prelude.{ℕ, ◌+◌, ◌*◌, ◌≤◌, slice_index}
use Rattle.criteria.specs.declared.sum.SumValue.{SumValue}
use Rattle.criteria.specs.Meaning.{Meaning}

-- the sum of one mark of every road: less is better
abbrev pub sum_meaning : ℕ → Meaning SumValue
sum_meaning column = record {
  good = λ x y. x.total ≤ y.total;
  join = λ x y. record { total = x.total + y.total };
  unit = record { total = 0 };
  value = λ marks. record { total = slice_index marks column };
  passes = λ k x. x.total ≤ k * 4294967295;
}
