-- Whether a path stands in a list of paths can be told.
use Rattle.std.proofs.Common.{◌≡◌, ℕ, zero, suc, ◌⊎◌, List, [], ◌∷◌, length, refl, ap, inl, inr, ⊎_elim, arith}
use Rattle.std.proofs.lemmas.Bool.{cases_eq}
use Rattle.paths.specs.Sets.{Stands}

pub same_path : (p q : List ℕ) → (p ≡ q) ⊎ (p ≡ q → ⊥)
same_path [] [] = inl refl
same_path [] (y ∷ q) = inr (λ e. omega (arith, ap length e))
same_path (x ∷ p) [] = inr (λ e. omega (arith, ap length e))
same_path (x ∷ p) (y ∷ q) =
    ⊎_elim
    (λ e. ⊎_elim (λ f. inl (λ i. e i ∷ f i)) (λ apart. inr (λ f. let tails : p ≡ q = cc in apart tails)) (same_path p q))
    (λ apart. inr (λ f. let heads : x ≡ y = cc in apart heads))
    (cases_eq x y)

-- a path that is not the head and stands nowhere behind it stands nowhere
stands_not : (p q : List ℕ) (set : List (List ℕ)) → (p ≡ q → ⊥) → ((i : ℕ) → Stands set i q → ⊥) → (i : ℕ) → Stands (p ∷ set) i q → ⊥
stands_not p q set apart none zero (h, e) = apart (e p)
stands_not p q set apart none (suc i) (h, e) = none i (omega arith, e)

pub lookup : (set : List (List ℕ)) (q : List ℕ) → ((i : ℕ) × Stands set i q) ⊎ ((i : ℕ) → Stands set i q → ⊥)
lookup [] q = inr (λ i (h, e). omega arith)
lookup (p ∷ set) q =
    ⊎_elim
    (λ e. inl (0, (omega arith, λ d. e)))
    (λ apart. ⊎_elim (λ (i, (h, e)). inl (suc i, (omega arith, e))) (λ none. inr (stands_not p q set apart none)) (lookup set q))
    (same_path p q)
