-- What stands where in a list.
use Rattle.std.proofs.Common.{◌≡◌, ℕ, zero, suc, ◌<◌, ◌⊎◌, List, [], ◌∷◌, length, sym, refl, ◌∙◌, inl, inr, arith}
use Rattle.trips.specs.Elements.{At}

module _ {X : Type 0} where
  pub at_one : (xs : List X) (i : ℕ) (x y : X) → At xs i x → At xs i y → x ≡ y
  at_one xs i x y (_, e) (_, f) = sym (e x) ∙ f x

  pub at_head : (x : X) (xs : List X) → At (x ∷ xs) 0 x
  at_head x xs = (omega arith, λ d. refl)

  pub at_tail : (x : X) (xs : List X) (i : ℕ) (y : X) → At xs i y → At (x ∷ xs) (suc i) y
  at_tail x xs i y (h, e) = (omega arith, e)

  -- an element is the head, or stands behind it
  pub at_cases : (x : X) (xs : List X) (i : ℕ) (y : X) → At (x ∷ xs) i y → (x ≡ y) ⊎ ((j : ℕ) × At xs j y)
  at_cases x xs zero y (h, e) = inl (e x)
  at_cases x xs (suc i) y (h, e) = inr (i, (omega arith, e))

  -- something stands at each index of a list
  pub at_some : (xs : List X) (i : ℕ) → i < length xs → (x : X) × At xs i x
  at_some [] i h = absurd (omega arith)
  at_some (x ∷ xs) zero h = (x, at_head x xs)
  at_some (x ∷ xs) (suc i) h = let (y, k) = at_some xs i (omega arith) in (y, at_tail x xs i y k)

  -- nothing stands in no list
  pub at_none : (i : ℕ) (x : X) → At [] i x → ⊥
  at_none i x (h, _) = omega arith
