-- Different numbers below n are at most n.
use Rattle.std.proofs.Common.{◌≡◌, ℕ, zero, suc, ◌<◌, ◌≤◌, ◌⊎◌, List, length, get_or, sym, refl, ◌∙◌, inl, inr, ⊎_elim, arith}
use Rattle.std.proofs.lemmas.Bool.{cases_eq}
use Rattle.trips.specs.Plans.{Distinct}

-- f is different at any two numbers below m
abbrev Differs : (ℕ → ℕ) → ℕ → Type 0
Differs f m = (i j : ℕ) → i < j → j < m → f i ≡ f j → ⊥

-- w is f i, or f m in the place of n
abbrev Moved : (ℕ → ℕ) → ℕ → ℕ → ℕ → ℕ → Type 0
Moved f m n i w = ((f i ≡ n) × (w ≡ f m)) ⊎ ((f i ≡ n → ⊥) × (w ≡ f i))

moved : (f : ℕ → ℕ) (m n i : ℕ) → (w : ℕ) × Moved f m n i w
moved f m n i = ⊎_elim (λ e. (f m, inl (e, refl))) (λ ne. (f i, inr (ne, refl))) (cases_eq (f i) n)

module _ (f : ℕ → ℕ) (m n : ℕ) (below : (i : ℕ) → i < suc m → f i < suc n) (apart : Differs f (suc m)) where
  moved_below : (i w : ℕ) → i < m → Moved f m n i w → w < n
  moved_below i w lt how =
      let last = below m (omega arith) in
      let here = below i (omega arith) in
      ⊎_elim
      (λ (e, is). let ne : f m ≡ n → ⊥ = λ e'. apart i m lt (omega arith) (e ∙ sym e') in omega arith)
      (λ (ne, is). omega arith)
      how

  moved_apart : (i j v w : ℕ) → i < j → j < m → Moved f m n i v → Moved f m n j w → v ≡ w → ⊥
  moved_apart i j v w lt within how how' same =
      let far = apart i j lt (omega arith) in
      let far_i = apart i m (omega arith) (omega arith) in
      let far_j = apart j m (omega arith) (omega arith) in
      ⊎_elim
      (λ (e, is). ⊎_elim (λ (e', _). far (e ∙ sym e')) (λ (_, is'). far_j (sym is' ∙ sym same ∙ is)) how')
      (λ (_, is). ⊎_elim (λ (_, is'). far_i (sym is ∙ same ∙ is')) (λ (_, is'). far (sym is ∙ same ∙ is')) how')
      how

pub pigeonhole : (f : ℕ → ℕ) (m n : ℕ) → ((i : ℕ) → i < m → f i < n) → Differs f m → m ≤ n
pigeonhole f zero n below apart = omega arith
pigeonhole f (suc m) zero below apart = absurd (omega (arith, below 0 (omega arith)))
pigeonhole f (suc m) (suc n) below apart =
    let g : ℕ → ℕ = λ i. (moved f m n i).0 in
    let low : (i : ℕ) → i < m → g i < n = λ i lt. moved_below f m n below apart i (g i) lt (moved f m n i).1 in
    let far : Differs g m = λ i j lt within. moved_apart f m n below apart i j (g i) (g j) lt within (moved f m n i).1 (moved f m n j).1 in
    omega (arith, pigeonhole g m n low far)

pub distinct_short : (ns : List ℕ) (n : ℕ) → ((i : ℕ) → i < length ns → get_or ns i 0 < n) → Distinct ns → length ns ≤ n
distinct_short ns n = pigeonhole (λ i. get_or ns i 0) (length ns) n
