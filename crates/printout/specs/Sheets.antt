-- The first sheet of the record's book, place by place.
use Rattle.std.specs.Prelude.{ℕ, List}
use Rattle.book.specs.Reading.{pairs_there, rows_there}
use Rattle.criteria.specs.declared.limit.LimitValue.{LimitValue}
use Rattle.criteria.specs.declared.sum.SumValue.{SumValue}
use Rattle.rows.specs.declared.row.Row.{Row}
use Rattle.printout.specs.Record.{Pair}
use Rattle.printout.specs.declared.sheet.FirstSheet.{FirstSheet}

-- its rows at the place
abbrev pub rows_at : FirstSheet → ℕ → List (Row SumValue LimitValue)
rows_at s place = rows_there s.book.now s.rows.now 0 place

-- their values
abbrev pub pairs_at : FirstSheet → ℕ → List Pair
pairs_at s place = pairs_there s.book.now s.rows.now 0 place
