-- The six classical problems with two objectives.
use Rattle.std.specs.Prelude.{ℕ}
use Rattle.paths.specs.Objectives.{Objective, minsum, minmax, maxmin}

-- a problem asks for a minimal complete set of efficient paths for two objectives; it is named by them
pub data Problem : Type 0 where
  maxmin_maxmin : Problem
  minmax_maxmin : Problem
  minmax_minmax : Problem
  minsum_maxmin : Problem
  minsum_minmax : Problem
  minsum_minsum : Problem

-- its first objective, for the marks of a column
abbrev pub first_objective : Problem → ℕ → Objective
first_objective maxmin_maxmin column = maxmin column
first_objective minmax_maxmin column = minmax column
first_objective minmax_minmax column = minmax column
first_objective minsum_maxmin column = minsum column
first_objective minsum_minmax column = minsum column
first_objective minsum_minsum column = minsum column

-- its second objective
abbrev pub second_objective : Problem → ℕ → Objective
second_objective maxmin_maxmin column = maxmin column
second_objective minmax_maxmin column = maxmin column
second_objective minmax_minmax column = minmax column
second_objective minsum_maxmin column = maxmin column
second_objective minsum_minmax column = minmax column
second_objective minsum_minsum column = minsum column
