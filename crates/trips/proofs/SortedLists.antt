-- Two lists in one strict order that have the same elements are one list.
use Rattle.std.proofs.Common.{◌≡◌, ℕ, suc, ◌<◌, ◌⊎◌, List, [], ◌∷◌, sym, refl, ◌∙◌, subst, inl, inr, ⊎_elim, arith}
use Rattle.trips.specs.Elements.{At}
use Rattle.trips.proofs.Elements.{at_head, at_tail, at_cases, at_none}

module _ {X : Type 0} (Before : X → X → Type 0) (apart : (x y : X) → Before x y → Before y x → ⊥) where
  abbrev Sorted : List X → Type 0
  Sorted xs = (i j : ℕ) (x y : X) → i < j → At xs i x → At xs j y → Before x y

  abbrev Within : List X → List X → Type 0
  Within xs ys = (i : ℕ) (x : X) → At xs i x → (j : ℕ) × At ys j x

  sorted_tail : (x : X) (xs : List X) → Sorted (x ∷ xs) → Sorted xs
  sorted_tail x xs s i j y z lt h k = s (suc i) (suc j) y z (omega arith) (at_tail x xs i y h) (at_tail x xs j z k)

  head_before : (x : X) (xs : List X) → Sorted (x ∷ xs) → (i : ℕ) (y : X) → At xs i y → Before x y
  head_before x xs s i y h = s 0 (suc i) x y (omega arith) (at_head x xs) (at_tail x xs i y h)

  -- an element of the first list is the second's head, or stands behind it there
  found : (x y : X) (xs ys : List X) → Sorted (y ∷ ys) → Within (x ∷ xs) (y ∷ ys) → (i : ℕ) (z : X) → At (x ∷ xs) i z → (y ≡ z) ⊎ ((j : ℕ) × (At ys j z × Before y z))
  found x y xs ys s w i z h =
      let (k, there) = w i z h in
      ⊎_elim inl (λ (j, behind). inr (j, (behind, head_before y ys s j z behind))) (at_cases y ys k z there)

  heads : (x y : X) (xs ys : List X) → Sorted (x ∷ xs) → Sorted (y ∷ ys) → Within (x ∷ xs) (y ∷ ys) → Within (y ∷ ys) (x ∷ xs) → x ≡ y
  heads x y xs ys s t v w =
      ⊎_elim
      sym
      (λ (_, (_, after)). ⊎_elim (λ e. e) (λ (_, (_, before)). absurd (apart x y before after)) (found y x ys xs s w 0 y (at_head y ys)))
      (found x y xs ys t v 0 x (at_head x xs))

  within_tail : (x y : X) (xs ys : List X) → x ≡ y → Sorted (x ∷ xs) → Sorted (y ∷ ys) → Within (x ∷ xs) (y ∷ ys) → Within xs ys
  within_tail x y xs ys e s t v i z h =
      let after = head_before x xs s i z h in
      ⊎_elim
      (λ f. let loop = subst (λ o. Before o z) (e ∙ f) after in absurd (apart z z loop loop))
      (λ (j, (there, _)). (j, there))
      (found x y xs ys t v (suc i) z (at_tail x xs i z h))

  pub same_sorted : (xs ys : List X) → Sorted xs → Sorted ys → Within xs ys → Within ys xs → xs ≡ ys
  same_sorted [] [] s t v w = refl
  same_sorted [] (y ∷ ys) s t v w = let (i, h) = w 0 y (at_head y ys) in absurd (at_none i y h)
  same_sorted (x ∷ xs) [] s t v w = let (i, h) = v 0 x (at_head x xs) in absurd (at_none i x h)
  same_sorted (x ∷ xs) (y ∷ ys) s t v w =
      let e = heads x y xs ys s t v w in
      let rest = same_sorted xs ys (sorted_tail x xs s) (sorted_tail y ys t) (within_tail x y xs ys e s t v) (within_tail y x ys xs (sym e) t s w) in
      (λ i. e i ∷ rest i)
