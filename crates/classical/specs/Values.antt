-- Which criterion stands for which objective.
use Rattle.std.specs.Prelude.{◌≡◌, ℕ}
use Rattle.criteria.specs.Limit.{limit_meaning}
use Rattle.criteria.specs.Meaning.{Meaning}
use Rattle.criteria.specs.Peak.{peak_meaning}
use Rattle.criteria.specs.Sum.{sum_meaning}
use Rattle.criteria.specs.declared.limit.LimitValue.{LimitValue}
use Rattle.criteria.specs.declared.limit.LimitValue.TheVariants as limit
use Rattle.criteria.specs.declared.peak.PeakValue.{PeakValue}
use Rattle.criteria.specs.declared.peak.PeakValue.TheVariants as peak
use Rattle.criteria.specs.declared.sum.SumValue.{SumValue}
use Rattle.paths.specs.Objectives.{Objective, minsum, minmax, maxmin}

-- the values of the criterion that stands for an objective: Sum for a small sum, Peak for a small greatest mark, Limit for a great least mark
abbrev pub ValueFor : Objective → Type 0
ValueFor (minsum column) = SumValue
ValueFor (minmax column) = PeakValue
ValueFor (maxmin column) = LimitValue

-- its meaning, by the same column
abbrev pub meaning_for : (o : Objective) → Meaning (ValueFor o)
meaning_for (minsum column) = sum_meaning column
meaning_for (minmax column) = peak_meaning column
meaning_for (maxmin column) = limit_meaning column

-- a value of that criterion is the number n
abbrev pub IsNumber : (o : Objective) → ValueFor o → ℕ → Type 0
IsNumber (minsum column) v n = v.total ≡ n
IsNumber (minmax column) v n = v ≡ peak.Mark n
IsNumber (maxmin column) v n = v ≡ limit.Mark n
