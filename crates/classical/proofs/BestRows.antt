-- The best rows of a book as lexicographic minima.
use Rattle.std.proofs.Common.{ℕ, ◌-◌, List, length, IfOk, Ok, Err, Result, sym, subst, MatchResult}
use lib.ListN.{length-map}
use Rattle.book.specs.Reading.{FirstThere, LastThere, sheet_of}
use Rattle.book.specs.declared.book.Book.{Book}
use Rattle.criteria.specs.Meaning.{Meaning}
use Rattle.criteria.specs.declared.lexical.Lexical.{Lexical}
use Rattle.criteria.specs.declared.lexical.LexicalValue.{LexicalValue}
use Rattle.criteria.specs.declared.peak.Peak.{Peak}
use Rattle.criteria.specs.declared.peak.PeakValue.{PeakValue}
use Rattle.criteria.specs.declared.sum.Sum.{Sum}
use Rattle.criteria.specs.declared.sum.SumValue.{SumValue}
use Rattle.rows.specs.Places.{RowAt, pair_of, rows_at, pairs_at, rows_of}
use Rattle.rows.specs.declared.row.Row.{Row}
use Rattle.rows.proofs.Filter.{pair_stands}
use Rattle.trips.specs.Pages.{PairAt}
use Rattle.classical.specs.BestRows.{by_sum, by_sums, by_peak, HasLeastSums, HasLeastSumsThenPeak, HasLeastPeakThenSums}
use Rattle.classical.proofs.Lexmins.{first_sums, first_sums_then_peak, last_peak_then_sums}

-- what follows of an answer holds of what the call made
pub made_from : {X Y : Type 0} (r : Result X Y) (P Q : X → Type 0) (R : Y → Type 0) → MatchResult r P R → ((x : X) → P x → Q x) → IfOk r Q
made_from (Ok x) P Q R h more = more x h
made_from (Err y) P Q R h more = tt

-- the last row has the last pair
last_stands : {V W : Type 0} (a : Meaning V) (b : Meaning W) (place : ℕ) (rs : List (Row V W)) (x : Row V W) → RowAt (rows_at place rs) (length (rows_at place rs) - 1) x → PairAt a b (pairs_at place rs) (length (pairs_at place rs) - 1) (pair_of x)
last_stands a b place rs x h =
    subst (λ n. PairAt a b (pairs_at place rs) (n - 1) (pair_of x)) (sym (length-map (rows_at place rs) pair_of)) (pair_stands place rs (length (rows_at place rs) - 1) x h)

pub has_least_sums : (k : Book Sum Sum) (table : List (Row SumValue SumValue)) (sheet place : ℕ) (x : Row SumValue SumValue) → FirstThere (by_sum k.first) (by_sum k.second) k table sheet place x → HasLeastSums k table sheet place x
has_least_sums k table sheet place x (_, here) places roads s page =
    first_sums k.first.column.index k.second.column.index places roads s place (pairs_at place (rows_of (sheet_of k sheet) table)) page (pair_of x) (pair_stands place (rows_of (sheet_of k sheet) table) 0 x here)

module _ (k : Book (Lexical Sum Sum) Peak) (table : List (Row (LexicalValue SumValue SumValue) PeakValue)) (sheet place : ℕ) (x : Row (LexicalValue SumValue SumValue) PeakValue) where
  pub has_least_sums_then_peak : FirstThere (by_sums k.first) (by_peak k.second) k table sheet place x → HasLeastSumsThenPeak k table sheet place x
  has_least_sums_then_peak (_, here) places roads s far page =
      first_sums_then_peak k.first.first.column.index k.first.second.column.index k.second.column.index places roads s place far (pairs_at place (rows_of (sheet_of k sheet) table)) page (pair_of x) (pair_stands place (rows_of (sheet_of k sheet) table) 0 x here)

  pub has_least_peak_then_sums : LastThere (by_sums k.first) (by_peak k.second) k table sheet place x → HasLeastPeakThenSums k table sheet place x
  has_least_peak_then_sums (_, here) places roads s far page =
      last_peak_then_sums k.first.first.column.index k.first.second.column.index k.second.column.index places roads s place far (pairs_at place (rows_of (sheet_of k sheet) table)) page (pair_of x) (last_stands (by_sums k.first) (by_peak k.second) place (rows_of (sheet_of k sheet) table) x here)
