-- A list with an element for each of another's.
use Rattle.std.proofs.Common.{◌≡◌, ℕ, zero, suc, List, [], ◌∷◌, length, refl, subst, arith}
use Rattle.trips.specs.Elements.{At}
use Rattle.trips.proofs.Elements.{at_head, at_tail}

module _ {X Y : Type 0} (P : X → Y → Type 0) where
  -- ys has an element for each of xs, in the relation P to it
  pub record Matching (xs : List X) (ys : List Y) : Type 0 where
    pub many : length xs ≡ length ys
    pub each : (i : ℕ) (x : X) (y : Y) → At xs i x → At ys i y → P x y

  matching_each : (x : X) (xs : List X) (y : Y) (ys : List Y) → P x y → Matching xs ys → (i : ℕ) (v : X) (w : Y) → At (x ∷ xs) i v → At (y ∷ ys) i w → P v w
  matching_each x xs y ys here rest zero v w (_, e) (_, f) = subst (λ o. P v o) (f w) (subst (λ o. P o y) (e v) here)
  matching_each x xs y ys here rest (suc i) v w (h, e) (k, f) = rest.each i v w (omega arith, e) (omega arith, f)

  pub chosen : (xs : List X) → ((i : ℕ) (x : X) → At xs i x → (y : Y) × P x y) → (ys : List Y) × Matching xs ys
  chosen [] pick = ([], record { many = refl; each = λ i x y (h, e). absurd (omega arith) })
  chosen (x ∷ xs) pick =
      let (y, here) = pick 0 x (at_head x xs) in
      let (ys, rest) = chosen xs (λ i v h. pick (suc i) v (at_tail x xs i v h)) in
      (y ∷ ys, record { many = omega (arith, rest.many); each = matching_each x xs y ys here rest })
