-- The first and the last row of a page as lexicographic minima.
use Rattle.std.specs.Prelude.{◌≡◌, ℕ, List, [], ◌∷◌}
use Rattle.criteria.specs.declared.peak.PeakValue.{PeakValue}
use Rattle.criteria.specs.declared.peak.PeakValue.TheVariants.{Mark}
use Rattle.criteria.specs.declared.lexical.LexicalValue.{LexicalValue}
use Rattle.criteria.specs.declared.sum.SumValue.{SumValue}
use Rattle.paths.specs.Lexicographic.{Lexmin}
use Rattle.paths.specs.Objectives.{minsum, minmax}
use Rattle.roads.specs.declared.road.Road.{Road}

-- two sums are the lexicographic minimum (c, t) over the paths from s to e: the least sum of column c, and on a tie of column t
abbrev pub LeastSums : ℕ → ℕ → List Road → ℕ → ℕ → SumValue × SumValue → Type 0
LeastSums c t roads s e p = Lexmin (minsum c ∷ minsum t ∷ []) roads s e (p.0.total ∷ p.1.total ∷ [])

-- the values of a lexical pair of sums and a peak are the lexicographic minimum (c, t, b): on a further tie the least greatest mark of column b
abbrev pub LeastSumsThenPeak : ℕ → ℕ → ℕ → List Road → ℕ → ℕ → LexicalValue SumValue SumValue × PeakValue → Type 0
LeastSumsThenPeak c t b roads s e p =
    (n : ℕ) × ((p.1 ≡ Mark n) × Lexmin (minsum c ∷ minsum t ∷ minmax b ∷ []) roads s e (p.0.first.total ∷ p.0.second.total ∷ n ∷ []))

-- they are the lexicographic minimum (b, c, t): the least greatest mark of column b, and on a tie the least sums
abbrev pub LeastPeakThenSums : ℕ → ℕ → ℕ → List Road → ℕ → ℕ → LexicalValue SumValue SumValue × PeakValue → Type 0
LeastPeakThenSums c t b roads s e p =
    (n : ℕ) × ((p.1 ≡ Mark n) × Lexmin (minmax b ∷ minsum c ∷ minsum t ∷ []) roads s e (n ∷ p.0.first.total ∷ p.0.second.total ∷ []))
