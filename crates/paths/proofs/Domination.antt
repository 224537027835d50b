-- Dominating paths, and paths that are not worse.
use Rattle.std.proofs.Common.{◌≡◌, ℕ, ◌⊎◌, List, inl, inr, ⊎_elim, arith}
use Rattle.std.proofs.lemmas.Bool.{cases_lt}
use Rattle.roads.specs.declared.road.Road.{Road}
use Rattle.paths.specs.Objectives.{Objective, minsum, minmax, maxmin, value, Better, NoWorse}
use Rattle.paths.specs.Sets.{Dominates, Equivalent}

pub better_or_same : (o : Objective) (m n : ℕ) → NoWorse o m n → Better o m n ⊎ (m ≡ n)
better_or_same (minsum c) m n h = ⊎_elim inl (λ k. inr (omega arith)) (cases_lt m n)
better_or_same (minmax c) m n h = ⊎_elim inl (λ k. inr (omega arith)) (cases_lt m n)
better_or_same (maxmin c) m n h = ⊎_elim inl (λ k. inr (omega arith)) (cases_lt n m)

pub better_no_worse : (o : Objective) (m n : ℕ) → Better o m n → NoWorse o m n
better_no_worse (minsum c) m n h = omega arith
better_no_worse (minmax c) m n h = omega arith
better_no_worse (maxmin c) m n h = omega arith

pub better_apart : (o : Objective) (m n : ℕ) → Better o m n → NoWorse o n m → ⊥
better_apart (minsum c) m n h k = omega arith
better_apart (minmax c) m n h k = omega arith
better_apart (maxmin c) m n h k = omega arith

pub no_worse_same : (o : Objective) (m n : ℕ) → m ≡ n → NoWorse o m n
no_worse_same (minsum c) m n e = omega arith
no_worse_same (minmax c) m n e = omega arith
no_worse_same (maxmin c) m n e = omega arith

pub no_worse_trans : (o : Objective) (l m n : ℕ) → NoWorse o l m → NoWorse o m n → NoWorse o l n
no_worse_trans (minsum c) l m n h k = omega arith
no_worse_trans (minmax c) l m n h k = omega arith
no_worse_trans (maxmin c) l m n h k = omega arith

module _ (f g : Objective) (roads : List Road) (s e : ℕ) where
  -- p weakly dominates q: it has a not worse value for both objectives
  pub record WeaklyDominates (p q : List ℕ) : Type 0 where
    pub first : NoWorse f (value f roads p) (value f roads q)
    pub second : NoWorse g (value g roads p) (value g roads q)

  pub weakly_trans : (p q r : List ℕ) → WeaklyDominates p q → WeaklyDominates q r → WeaklyDominates p r
  weakly_trans p q r h k = record {
    first = no_worse_trans f (value f roads p) (value f roads q) (value f roads r) h.first k.first;
    second = no_worse_trans g (value g roads p) (value g roads q) (value g roads r) h.second k.second;
  }

  pub dominates_weakly : (p q : List ℕ) → Dominates f g roads s e p q → WeaklyDominates p q
  dominates_weakly p q =
      ⊎_elim
      (λ (h, k). record { first = better_no_worse f (value f roads p) (value f roads q) h; second = k })
      (λ (h, k). record { first = h; second = better_no_worse g (value g roads p) (value g roads q) k })

  -- a dominated path does not weakly dominate the one that dominates it
  pub dominates_apart : (p q : List ℕ) → Dominates f g roads s e p q → WeaklyDominates q p → ⊥
  dominates_apart p q d back =
      ⊎_elim
      (λ (h, _). better_apart f (value f roads p) (value f roads q) h back.first)
      (λ (_, k). better_apart g (value g roads p) (value g roads q) k back.second)
      d

  -- a path that is not worse dominates or is equivalent
  pub weakly_cases : (p q : List ℕ) → WeaklyDominates p q → Dominates f g roads s e p q ⊎ Equivalent f g roads s e p q
  weakly_cases p q h =
      ⊎_elim
      (λ better. inl (inl (better, h.second)))
      (λ same. ⊎_elim (λ better. inl (inr (h.first, better))) (λ same'. inr (record { first = same; second = same' })) (better_or_same g (value g roads p) (value g roads q) h.second))
      (better_or_same f (value f roads p) (value f roads q) h.first)
