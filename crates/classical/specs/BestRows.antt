-- The best rows of a book as lexicographic minima.
use Rattle.std.specs.Prelude.{ℕ, List, ◌≢◌}
use Rattle.book.specs.Reading.{sheet_of}
use Rattle.book.specs.declared.book.Book.{Book}
use Rattle.criteria.specs.Lexical.{lexical_meaning}
use Rattle.criteria.specs.Meaning.{Meaning}
use Rattle.criteria.specs.Peak.{peak_meaning}
use Rattle.criteria.specs.Sum.{sum_meaning}
use Rattle.criteria.specs.declared.lexical.Lexical.{Lexical}
use Rattle.criteria.specs.declared.lexical.LexicalValue.{LexicalValue}
use Rattle.criteria.specs.declared.peak.Peak.{Peak}
use Rattle.criteria.specs.declared.peak.PeakValue.{PeakValue}
use Rattle.criteria.specs.declared.sum.Sum.{Sum}
use Rattle.criteria.specs.declared.sum.SumValue.{SumValue}
use Rattle.roads.specs.declared.road.Road.{Road}
use Rattle.rows.specs.Places.{pair_of, pairs_at, rows_of}
use Rattle.rows.specs.declared.row.Row.{Row}
use Rattle.trips.specs.Pages.{Page}
use Rattle.trips.specs.Plans.{swept}
use Rattle.classical.specs.Lexmins.{LeastSums, LeastSumsThenPeak, LeastPeakThenSums}

-- what a Sum means, by its column
abbrev pub by_sum : Sum → Meaning SumValue
by_sum c = sum_meaning c.column.index

-- what a Lexical of two Sums means
abbrev pub by_sums : Lexical Sum Sum → Meaning (LexicalValue SumValue SumValue)
by_sums c = lexical_meaning (by_sum c.first) (by_sum c.second)

-- what a Peak means
abbrev pub by_peak : Peak → Meaning PeakValue
by_peak c = peak_meaning c.column.index

-- the rows of that sheet at that place are the page of a sweep over the roads from s
abbrev pub SweepsPage : {A B V W : Type 0} → Meaning V → Meaning W → Book A B → List (Row V W) → ℕ → ℕ → ℕ → List Road → ℕ → Type 0
SweepsPage a b k table sheet place places roads s = Page a b (swept places roads s) place (pairs_at place (rows_of (sheet_of k sheet) table))

-- whatever sweep they are the page of, x has the least sums: of the first column, and on a tie of the second
abbrev pub HasLeastSums : Book Sum Sum → List (Row SumValue SumValue) → ℕ → ℕ → Row SumValue SumValue → Type 0
HasLeastSums k table sheet place x =
    (places : ℕ) (roads : List Road) (s : ℕ) →
    SweepsPage (by_sum k.first) (by_sum k.second) k table sheet place places roads s →
    LeastSums k.first.column.index k.second.column.index roads s place (pair_of x)

-- whatever sweep from another place they are the page of, x has the least sums, and on a tie the least peak
abbrev pub HasLeastSumsThenPeak : Book (Lexical Sum Sum) Peak → List (Row (LexicalValue SumValue SumValue) PeakValue) → ℕ → ℕ → Row (LexicalValue SumValue SumValue) PeakValue → Type 0
HasLeastSumsThenPeak k table sheet place x =
    (places : ℕ) (roads : List Road) (s : ℕ) →
    (s ≢ place) →
    SweepsPage (by_sums k.first) (by_peak k.second) k table sheet place places roads s →
    LeastSumsThenPeak k.first.first.column.index k.first.second.column.index k.second.column.index roads s place (pair_of x)

-- whatever sweep from another place they are the page of, x has the least peak, and on a tie the least sums
abbrev pub HasLeastPeakThenSums : Book (Lexical Sum Sum) Peak → List (Row (LexicalValue SumValue SumValue) PeakValue) → ℕ → ℕ → Row (LexicalValue SumValue SumValue) PeakValue → Type 0
HasLeastPeakThenSums k table sheet place x =
    (places : ℕ) (roads : List Road) (s : ℕ) →
    (s ≢ place) →
    SweepsPage (by_sums k.first) (by_peak k.second) k table sheet place places roads s →
    LeastPeakThenSums k.first.first.column.index k.first.second.column.index k.second.column.index roads s place (pair_of x)
