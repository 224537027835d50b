-- What a sheet more does to the sheets of a book.
use Rattle.std.proofs.Common.{◌≡◌, ℕ, ◌+◌, ◌<◌, List, [], ◌∷◌, ◌++◌, length, get_or, sym, ap, ◌∙◌, subst, ⊎_elim, add_assoc, zero-add, arith}
use Rattle.std.proofs.lemmas.List.{get_or_append_left, get_or_push, length_push, take-append-le, take_at}
use Rattle.std.proofs.lemmas.Bool.{cases_lt}
use Rattle.rows.specs.declared.sheet.Sheet.{Sheet}
use Rattle.book.specs.Sheets.{total, Following}

-- the rows of sheets, and of others behind them
pub total-++ : (xs ys : List Sheet) → total (xs ++ ys) ≡ total xs + total ys
total-++ [] ys = sym (zero-add (total ys))
total-++ (x ∷ xs) ys = ap (λ n. x.len + n) (total-++ xs ys) ∙ sym (add_assoc x.len (total xs) (total ys))

module _ (sheets : List Sheet) (s : Sheet) where
  -- the sheets have as many rows more as the new one
  pub total_more : total (sheets ++ s ∷ []) ≡ total sheets + s.len
  total_more = let e = total-++ sheets (s ∷ []) in omega (arith, e)

  -- what holds of the sheets and of the new one holds with one sheet more
  pub one_more : (P : ℕ → Sheet → Type 0) → ((i : ℕ) (d : Sheet) → i < length sheets → P i (get_or sheets i d)) → P (length sheets) s → (i : ℕ) (d : Sheet) → i < length (sheets ++ s ∷ []) → P i (get_or (sheets ++ s ∷ []) i d)
  one_more P before here i d lt =
      ⊎_elim
      (λ below. subst (P i) (sym (get_or_append_left sheets (s ∷ []) d i below)) (before i d below))
      (λ high.
      let is : length sheets ≡ i = omega (arith, length_push sheets s) in
      subst (P i) (sym (get_or_push sheets s d i is)) (subst (λ k. P k s) is here))
      (cases_lt i (length sheets))

  -- the new sheet follows the others
  pub following_more : Following sheets → s.start ≡ total sheets → Following (sheets ++ s ∷ [])
  following_more before start i d lt =
      ⊎_elim
      (λ below. ap (λ x. x.start) (get_or_append_left sheets (s ∷ []) d i below) ∙ before i d below ∙ ap total (sym (take-append-le i sheets (s ∷ []) (omega arith))))
      (λ high.
      let is : length sheets ≡ i = omega (arith, length_push sheets s) in
      ap (λ x. x.start) (get_or_push sheets s d i is) ∙ start ∙ ap total (sym (take_at sheets (s ∷ []) i is)))
      (cases_lt i (length sheets))
