-- Two ways in which joining a road upsets an order.
use Rattle.std.specs.Prelude.{◌≡◌, ℕ}
use Rattle.criteria.specs.declared.lexical.LexicalValue.{LexicalValue}
use Rattle.criteria.specs.declared.limit.LimitValue.{LimitValue}
use Rattle.criteria.specs.declared.peak.PeakValue.{PeakValue}
use Rattle.criteria.specs.declared.limit.LimitValue.TheVariants.{Mark as LimitMark}
use Rattle.criteria.specs.declared.peak.PeakValue.TheVariants.{Mark as PeakMark}
use Rattle.criteria.specs.declared.sum.SumValue.{SumValue}
use Rattle.criteria.specs.Covers.{Covers, Precedes}
use Rattle.criteria.specs.Lexical.{lexical_meaning}
use Rattle.criteria.specs.Limit.{limit_meaning}
use Rattle.criteria.specs.Meaning.{Meaning, Strict, Monotone, Steadiness}
use Rattle.criteria.specs.Peak.{peak_meaning}
use Rattle.criteria.specs.Sum.{sum_meaning}

-- by the load limit, and on a tie by the time
abbrev pub limit_then_time : Meaning (LexicalValue LimitValue SumValue)
limit_then_time = lexical_meaning (limit_meaning 2) (sum_meaning 0)

-- a limit with a time
abbrev pub limit_time : ℕ → ℕ → LexicalValue LimitValue SumValue
limit_time limit time = record { first = LimitMark limit; second = record { total = time } }

-- 600/50 is strictly better than 400/10, yet a road of 300/5 makes them 300/55 and 300/15, of which the second is strictly better:
-- so an order by the limit first is not steady, and not even monotone
pub record LimitFirstIsUnsteady : Type 0 where
  pub ahead : Strict limit_then_time.good (limit_time 600 50) (limit_time 400 10)
  pub first : limit_then_time.join (limit_time 600 50) (limit_time 300 5) ≡ limit_time 300 55
  pub second : limit_then_time.join (limit_time 400 10) (limit_time 300 5) ≡ limit_time 300 15
  pub behind : Strict limit_then_time.good (limit_time 300 15) (limit_time 300 55)
  pub unsteady : Steadiness limit_then_time → ⊥
  pub not_monotone : Monotone limit_then_time → ⊥

-- a peak with a cost
abbrev pub peak_cost : ℕ → ℕ → PeakValue × SumValue
peak_cost peak cost = (PeakMark peak, record { total = cost })

-- a pair of a peak and a cost, extended by a road's
abbrev pub extended : PeakValue × SumValue → PeakValue × SumValue → PeakValue × SumValue
extended p q = ((peak_meaning 3).join p.0 q.0, (sum_meaning 1).join p.1 q.1)

-- 1/9 stands before 2/4, and neither covers the other, yet a road of 5/1 makes them 5/10 and 5/5, of which the second covers the first:
-- so extended pairs need not keep their order
pub record ExtensionLosesOrder : Type 0 where
  pub ordered : Precedes (peak_meaning 3) (sum_meaning 1) (peak_cost 1 9) (peak_cost 2 4)
  pub not_first : Covers (peak_meaning 3) (sum_meaning 1) (peak_cost 1 9) (peak_cost 2 4) → ⊥
  pub not_second : Covers (peak_meaning 3) (sum_meaning 1) (peak_cost 2 4) (peak_cost 1 9) → ⊥
  pub first : extended (peak_cost 1 9) (peak_cost 5 1) ≡ peak_cost 5 10
  pub second : extended (peak_cost 2 4) (peak_cost 5 1) ≡ peak_cost 5 5
  pub covered : Covers (peak_meaning 3) (sum_meaning 1) (peak_cost 5 5) (peak_cost 5 10)
  pub disordered : Precedes (peak_meaning 3) (sum_meaning 1) (peak_cost 5 10) (peak_cost 5 5) → ⊥
