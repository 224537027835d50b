-- The orders of Sum and Peak.
use Rattle.std.proofs.Common.{◌≡◌, ℕ, ◌⊎◌, refl, ap, inl, inr, ⊎_elim, arith}
use Rattle.std.proofs.lemmas.Bool.{cases_lt}
use Rattle.criteria.specs.Meaning.{Strict, Order}
use Rattle.criteria.specs.Peak.{peak_good, peak_meaning}
use Rattle.criteria.specs.Sum.{sum_meaning}
use Rattle.criteria.specs.declared.peak.PeakValue.{PeakValue}
use Rattle.criteria.specs.declared.peak.PeakValue.TheVariants.{Level, Mark}

pub sum_order : (c : ℕ) → Order (sum_meaning c)
sum_order c = record {
  trans = λ x y z g h. omega arith;
  total = λ x y. ⊎_elim (λ lt. inr (record { better = omega arith; apart = λ back. omega arith })) inl (cases_lt y.total x.total);
  same = λ x y g h. let e : x.total ≡ y.total = omega arith in (λ i. record { total = e i });
}

peak_trans : (x y z : PeakValue) → peak_good x y → peak_good y z → peak_good x z
peak_trans Level y z g h = tt
peak_trans (Mark l) Level z g h = absurd g
peak_trans (Mark l) (Mark m) Level g h = absurd h
peak_trans (Mark l) (Mark m) (Mark n) g h = omega arith

peak_total : (x y : PeakValue) → peak_good x y ⊎ Strict peak_good y x
peak_total Level y = inl tt
peak_total (Mark m) Level = inr (record { better = tt; apart = λ back. back })
peak_total (Mark m) (Mark n) = ⊎_elim (λ lt. inr (record { better = omega arith; apart = λ back. omega arith })) inl (cases_lt n m)

peak_same : (x y : PeakValue) → peak_good x y → peak_good y x → x ≡ y
peak_same Level Level g h = refl
peak_same Level (Mark n) g h = absurd h
peak_same (Mark m) Level g h = absurd g
peak_same (Mark m) (Mark n) g h = ap Mark (omega arith)

pub peak_order : (c : ℕ) → Order (peak_meaning c)
peak_order c = record { trans = peak_trans; total = peak_total; same = peak_same }
