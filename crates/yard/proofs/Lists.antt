-- Tests of the elements of a list.
use Rattle.std.proofs.Common.{◌≡◌, ℕ, zero, suc, ◌<◌, Bool, true, ◌&&◌, List, [], ◌∷◌, subst, ◌∙◌, arith}
use Rattle.std.specs.List.{list_all, list_any}
use Rattle.std.proofs.lemmas.Bool.{and_parts}
use Rattle.std.proofs.lemmas.List.{get_or_default}
use Rattle.std.proofs.lemmas.List.Elements.{All-get_or}
use Rattle.std.proofs.lemmas.List.Folds.{Any-from_list_any}
use Rattle.std.proofs.lemmas.List.Sums.{AllPass-from_list_all}
use Rattle.trips.specs.Elements.{At}

module _ {X : Type 0} where
  -- each element passes with each behind it
  abbrev pub sorted : (X → X → Bool) → List X → Bool
  sorted test [] = true
  sorted test (x ∷ xs) = list_all (test x) xs && sorted test xs

  pub every_at : (test : X → Bool) (xs : List X) → list_all test xs ≡ true → (i : ℕ) (x : X) → At xs i x → test x ≡ true
  every_at test xs t i x (h, e) = subst (λ y. test y ≡ true) (e x) (All-get_or (λ y. test y ≡ true) xs i x h (AllPass-from_list_all test xs t))

  pub some_at : (test : X → Bool) (xs : List X) → list_any test xs ≡ true → (i : ℕ) × ((x : X) × (At xs i x × (test x ≡ true)))
  some_at test xs t =
      let (i, x, low, is, passes) = Any-from_list_any test xs t in
      (i, (x, ((low, λ d. get_or_default xs i d x low ∙ is), passes)))

  pub sorted_at : (test : X → X → Bool) (xs : List X) → sorted test xs ≡ true → (i j : ℕ) (x y : X) → i < j → At xs i x → At xs j y → test x y ≡ true
  sorted_at test [] t i j x y lt (h, _) k = absurd (omega arith)
  sorted_at test (z ∷ xs) t i zero x y lt h k = absurd (omega arith)
  sorted_at test (z ∷ xs) t zero (suc j) x y lt (h, e) (k, f) = rw (← e z) (every_at (test z) xs (and_parts (list_all (test z) xs) (sorted test xs) t).0 j y (omega arith, f))
  sorted_at test (z ∷ xs) t (suc i) (suc j) x y lt (h, e) (k, f) =
      sorted_at test xs (and_parts (list_all (test z) xs) (sorted test xs) t).1 i j x y (omega arith) (omega arith, e) (omega arith, f)
