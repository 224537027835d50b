-- Sum, Limit and Peak keep the laws, and a test tells the order of each.
use Rattle.std.proofs.Common.{◌≡◌, ℕ, ◌<◌, Bool, true, false, leb, refl, ap, arith, rules}
use Rattle.criteria.specs.Meaning.{Meaning, Laws}
use Rattle.criteria.specs.Limit.{limit_join, limit_meaning}
use Rattle.criteria.specs.Peak.{peak_join, peak_meaning}
use Rattle.criteria.specs.Sum.{sum_meaning}
use Rattle.criteria.specs.declared.limit.LimitValue.{LimitValue}
use Rattle.criteria.specs.declared.limit.LimitValue.TheVariants as limit
use Rattle.criteria.specs.declared.peak.PeakValue.{PeakValue}
use Rattle.criteria.specs.declared.peak.PeakValue.TheVariants as peak
use Rattle.criteria.specs.declared.sum.SumValue.{SumValue}

-- a meaning that keeps the laws, and a test that tells its order
pub record Judge {V : Type 0} (m : Meaning V) (test : V → V → Bool) : Type 0 where
  pub laws : Laws m
  pub yes : (x y : V) → test x y ≡ true → m.good x y
  pub no : (x y : V) → test x y ≡ false → m.good x y → ⊥

-- whether a sum is at least as good as another
abbrev pub sum_test : SumValue → SumValue → Bool
sum_test x y = leb x.total y.total

-- the judge of Sum: less is better
pub sum_judge : (c : ℕ) → c < 4 → Judge (sum_meaning c) sum_test
sum_judge c low = search rules

-- whether a limit is at least as good as another
abbrev pub limit_test : LimitValue → LimitValue → Bool
limit_test limit.Unlimited y = true
limit_test (limit.Mark m) limit.Unlimited = false
limit_test (limit.Mark m) (limit.Mark n) = leb n m

-- the judge of Limit: more is better
pub limit_judge : (c : ℕ) → Judge (limit_meaning c) limit_test
limit_judge c = search rules

-- in whichever order two limits are joined
limit_comm : (x y : LimitValue) → limit_join x y ≡ limit_join y x
limit_comm limit.Unlimited limit.Unlimited = refl
limit_comm limit.Unlimited (limit.Mark m) = refl
limit_comm (limit.Mark l) limit.Unlimited = refl
limit_comm (limit.Mark l) (limit.Mark m) = ap limit.Mark (omega arith)

-- whether a peak is at least as good as another
abbrev pub peak_test : PeakValue → PeakValue → Bool
peak_test peak.Level y = true
peak_test (peak.Mark m) peak.Level = false
peak_test (peak.Mark m) (peak.Mark n) = leb m n

-- the judge of Peak: less is better
pub peak_judge : (c : ℕ) → Judge (peak_meaning c) peak_test
peak_judge c = search rules

-- in whichever order two peaks are joined
peak_comm : (x y : PeakValue) → peak_join x y ≡ peak_join y x
peak_comm peak.Level peak.Level = refl
peak_comm peak.Level (peak.Mark m) = refl
peak_comm (peak.Mark l) peak.Level = refl
peak_comm (peak.Mark l) (peak.Mark m) = ap peak.Mark (omega arith)
