-- The table of the yard: what stands on its pages.
use Rattle.std.specs.Prelude.{◌≡◌, ℕ, zero, suc, List, [], ◌∷◌}
use Rattle.criteria.specs.Limit.{limit_meaning}
use Rattle.criteria.specs.Peak.{peak_meaning}
use Rattle.criteria.specs.Sum.{sum_meaning}
use Rattle.criteria.specs.declared.limit.LimitValue.{LimitValue}
use Rattle.criteria.specs.declared.limit.LimitValue.TheVariants as limit
use Rattle.criteria.specs.declared.peak.PeakValue.{PeakValue}
use Rattle.criteria.specs.declared.peak.PeakValue.TheVariants as peak
use Rattle.criteria.specs.declared.sum.SumValue.{SumValue}
use Rattle.trips.specs.Pages.{Page, Rows}
use Rattle.trips.specs.Plans.{origin, reach}
use Rattle.yard.specs.Network.{sweep_from, sweep_while_shut, round_trip, all_together}

-- a time or a cost
abbrev pub total_of : ℕ → SumValue
total_of n = record { total = n }

-- a time and a limit
abbrev pub timed : ℕ → ℕ → SumValue × LimitValue
timed time load = (total_of time, limit.Mark load)

-- a time and a cost
abbrev pub costed : ℕ → ℕ → SumValue × SumValue
costed time cost = (total_of time, total_of cost)

-- a limit and a peak
abbrev pub graded : ℕ → ℕ → LimitValue × PeakValue
graded load grade = (limit.Mark load, peak.Mark grade)

-- by Sum of mark 0 and Limit of mark 2, what the sweep from place 0 lists at each place
abbrev pub listed : ℕ → List (SumValue × LimitValue)
listed zero = (total_of 0, limit.Unlimited) ∷ []
listed (suc zero) = timed 10 400 ∷ []
listed (suc (suc zero)) = timed 10 400 ∷ []
listed (suc (suc (suc zero))) = timed 20 200 ∷ timed 25 300 ∷ timed 40 600 ∷ []
listed (suc (suc (suc (suc p)))) = []

pub record Table : Type 0 where
  -- Sum 0 and Limit 2, from place 0: every place
  pub pages : (p : ℕ) → Page (sum_meaning 0) (limit_meaning 2) (sweep_from 0) p (listed p)
  -- that sweep has 6 rows
  pub six : Rows (sum_meaning 0) (limit_meaning 2) 4 (sweep_from 0) 6
  -- Sum 0 and Sum 1, at place 3, and 8 rows in all
  pub costs : Page (sum_meaning 0) (sum_meaning 1) (sweep_from 0) 3 (costed 20 10 ∷ costed 25 8 ∷ costed 30 4 ∷ costed 40 2 ∷ [])
  pub eight : Rows (sum_meaning 0) (sum_meaning 1) 4 (sweep_from 0) 8
  -- Limit 2 and Peak 3, at place 3
  pub grades : Page (limit_meaning 2) (peak_meaning 3) (sweep_from 0) 3 (graded 600 3 ∷ graded 300 2 ∷ [])
  -- Sum 0 and Limit 2 while road 1 is shut, at place 3
  pub shut : Page (sum_meaning 0) (limit_meaning 2) sweep_while_shut 3 (timed 25 300 ∷ timed 40 600 ∷ [])
  -- in series with the sweep from place 3: at place 0, 12 rows in all, and the reach
  pub back : Page (sum_meaning 0) (limit_meaning 2) round_trip 0 (timed 32 200 ∷ timed 37 300 ∷ timed 52 500 ∷ [])
  pub twelve : Rows (sum_meaning 0) (limit_meaning 2) 4 round_trip 12
  pub six_roads : reach round_trip ≡ 6
  -- pooled with the first sheet: the rows of the first, at every place
  pub one_origin : origin (sweep_from 0) ≡ origin round_trip
  pub pooled : (p : ℕ) → Page (sum_meaning 0) (limit_meaning 2) all_together p (listed p)
