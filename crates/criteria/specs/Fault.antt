-- Why a criterion is refused.
use Rattle.std.specs.Prelude.{◌≡◌, ℕ, ◌<◌, ◌≤◌, Result, MatchResult}
use Rattle.criteria.specs.declared.fault.CriterionFault.{CriterionFault}
use Rattle.criteria.specs.declared.fault.CriterionFault.TheVariants.{NoSuchMark}

-- the number of a fault: a mark number above 3 is 10
abbrev pub fault_number : CriterionFault → ℕ
fault_number NoSuchMark = 10

-- what making a criterion of mark number n answers: one of that column if there is such a mark, and a refusal if there is none
abbrev pub Made : {T : Type 0} → (T → ℕ) → ℕ → Result T CriterionFault → Type 0
Made column n r = MatchResult r (λ made. (n < 4) × (column made ≡ n)) (λ fault. (4 ≤ n) × (fault ≡ NoSuchMark))
