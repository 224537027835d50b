-- A list with one element more.
use Rattle.std.proofs.Common.{◌≡◌, ℕ, ◌+◌, ◌<◌, ◌≤◌, ◌⊎◌, List, [], ◌∷◌, ◌++◌, length, sym, refl, ◌∙◌, inl, inr, ⊎_elim, arith, length-append}
use Rattle.std.proofs.lemmas.List.{get_or_append_left, get_or-append-add, get_or_push, length_push}
use Rattle.std.proofs.lemmas.Bool.{cases_lt}
use Rattle.rows.specs.declared.row.Row.{Row}
use Rattle.rows.specs.Places.{RowAt}
use Rattle.rows.specs.declared.row.Source.{Source}
use Rattle.rows.specs.declared.row.Source.TheVariants.{Empty, Extend, Pair, Taken}
use Rattle.rows.specs.Sound.{Made}
use Rattle.rows.specs.Trails.{Trail, empty, extend, pair, taken}
pub use Rattle.trips.proofs.Elements.{at_one}

module _ {V W : Type 0} where
  -- a row stays where it stands
  pub at_left : (rs xs : List (Row V W)) (i : ℕ) (p : Row V W) → RowAt rs i p → RowAt (rs ++ xs) i p
  at_left rs xs i p (h, e) = (omega (arith, length-append rs xs), λ d. get_or_append_left rs xs d i h ∙ e d)

  -- and stood there before
  pub at_front : (rs xs : List (Row V W)) (i : ℕ) (p : Row V W) → i < length rs → RowAt (rs ++ xs) i p → RowAt rs i p
  at_front rs xs i p low (_, e) = (low, λ d. sym (get_or_append_left rs xs d i low) ∙ e d)

  -- the new row stands last
  pub at_last : (rs : List (Row V W)) (r : Row V W) → RowAt (rs ++ r ∷ []) (length rs) r
  at_last rs r = (omega (arith, length_push rs r), λ d. get_or_push rs r d (length rs) refl)

  -- a row is an old one, or the last
  pub at_push : (rs : List (Row V W)) (r : Row V W) (i : ℕ) (p : Row V W) → RowAt (rs ++ r ∷ []) i p → RowAt rs i p ⊎ ((i ≡ length rs) × (p ≡ r))
  at_push rs r i p (h, e) =
      ⊎_elim
      (λ low. inl (low, λ d. sym (get_or_append_left rs (r ∷ []) d i low) ∙ e d))
      (λ high. let last : length rs ≡ i = omega (arith, length_push rs r) in inr (sym last, sym (e r) ∙ get_or_push rs r r i last))
      (cases_lt i (length rs))

  -- a row behind other rows
  pub at_behind : (front rs : List (Row V W)) (i : ℕ) (p : Row V W) → RowAt rs i p → RowAt (front ++ rs) (length front + i) p
  at_behind front rs i p (h, e) = (omega (arith, length-append front rs), λ d. get_or-append-add front rs i d ∙ e d)

  -- a trail stays where rows are added
  pub trail_more : (t xs : List (Row V W)) (k : ℕ) (js : List ℕ) → Trail t k js → Trail (t ++ xs) k js
  trail_more t xs k js (empty r at e) = empty r (at_left t xs k r at) e
  trail_more t xs k js (extend r i j is at e h) = extend r i j is (at_left t xs k r at) e (trail_more t xs i is h)
  trail_more t xs k js (pair r i j is ks at e h l) = pair r i j is ks (at_left t xs k r at) e (trail_more t xs i is h) (trail_more t xs j ks l)
  trail_more t xs k js (taken r i is at e h) = taken r i is (at_left t xs k r at) e (trail_more t xs i is h)

  -- what follows from a source of row k rests on the rows before k alone
  pub made_kept : (roads : ℕ) (t t' : List (Row V W)) (k n : ℕ) (s : Source) → ((i : ℕ) (p : Row V W) → i < k → RowAt t' i p → RowAt t i p) → Made roads t k n s → Made roads t' k n s
  made_kept roads t t' k n Empty same h = h
  made_kept roads t t' k n (Extend i j) same h = record { early = h.early; road = h.road; count = λ p at. h.count p (same i p h.early at) }
  made_kept roads t t' k n (Pair i j) same h = record { early = h.early; later = h.later; count = λ p q at_p at_q. h.count p q (same i p h.early at_p) (same j q h.later at_q) }
  made_kept roads t t' k n (Taken i) same h = record { early = h.early; count = λ p at. h.count p (same i p h.early at) }

  -- so it stays where rows are added
  pub made_more : (roads : ℕ) (t xs : List (Row V W)) (k n : ℕ) (s : Source) → k ≤ length t → Made roads t k n s → Made roads (t ++ xs) k n s
  made_more roads t xs k n s low h = made_kept roads t (t ++ xs) k n s (λ i p lt at. at_front t xs i p (omega arith) at) h
