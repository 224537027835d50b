-- What a row's source asks, from the rows that it names.
use Rattle.std.proofs.Common.{◌≡◌, ℕ, ◌+◌, ◌<◌, ◌↔◌, List, length, get_or, Some, Option, option_map, slice_get, sym, ap, ◌∙◌, ⊎_elim, arith}
use Rattle.std.proofs.lemmas.Option.{none-some, same_Some, slice_get_cases}
use Rattle.std.proofs.lemmas.List.{get_or_default}
use Rattle.rows.specs.declared.row.Row.{Row}
use Rattle.rows.specs.Places.{RowAt}
use Rattle.rows.specs.Sound.{Extended, Paired, TakenOver}

module _ {V W : Type 0} where
  -- row i stands before row k and has n roads
  pub record Before (table : List (Row V W)) (k i n : ℕ) : Type 0 where
    pub early : i < k
    pub row : Row V W
    pub stands : RowAt table i row
    pub count : row.roads ≡ n

  -- the row that a read below the length gives, by whichever default
  pub read_at : (t : List (Row V W)) (i : ℕ) (d : Row V W) → i < length t → RowAt t i (get_or t i d)
  read_at t i d h = (h, λ e. get_or_default t i e d h)

  -- the row that was read at an index
  pub item_at : (t : List (Row V W)) (i : ℕ) (r : Row V W) → r ≡ get_or t i r → i < length t → RowAt t i r
  item_at t i r is h = (h, λ e. get_or_default t i e r h ∙ sym is)

  -- one row stands at an index
  pub same_row : (t : List (Row V W)) (i : ℕ) (p q : Row V W) → RowAt t i p → RowAt t i q → p ≡ q
  same_row t i p q (_, e) (_, f) = sym (e p) ∙ f p

  -- what is read of an index of the rows before the next one
  pub before_read : (t : List (Row V W)) (i m : ℕ) → option_map (λ r. r.roads) (slice_get t i) ≡ Some m → Before t (length t) i m
  before_read t i m e =
      ⊎_elim
      (λ (x, lt, is, at). record { early = lt; row = x; stands = (lt, λ d. get_or_default t i d x lt ∙ at); count = same_Some _ _ (sym (ap (option_map (λ r. r.roads)) is) ∙ e) })
      (λ (le, none). absurd (none-some _ (sym (ap (option_map (λ r. r.roads)) none) ∙ e)))
      (slice_get_cases t i).1

  -- the row that was read below the length
  taken_read : (t : List (Row V W)) (i n : ℕ) → TakenOver t (length t) n i → option_map (λ r. r.roads) (slice_get t i) ≡ Some n
  taken_read t i n x =
      ⊎_elim
      (λ (r, lt, is, at). ap (option_map (λ q. q.roads)) is ∙ ap Some (sym (x.count r (lt, λ d. get_or_default t i d r lt ∙ at))))
      (λ (le, none). absurd (omega (arith, x.early)))
      (slice_get_cases t i).1

  -- any row at i has as many roads
  counted : (t : List (Row V W)) (k i n : ℕ) → Before t k i n → (p : Row V W) → RowAt t i p → p.roads ≡ n
  counted t k i n b p at = ap (λ r. r.roads) (same_row t i p b.row at b.stands) ∙ b.count

  -- what follows from a row and a road, from two rows, and from a row taken over
  pub extended_iff : (roads : ℕ) (t : List (Row V W)) (k i j m : ℕ) → Before t k i m → j < roads → (n : ℕ) → (Some (m + 1) ≡ Some n) ↔ Extended roads t k n i j
  extended_iff roads t k i j m b h n =
      (λ e. record { early = b.early; road = h; count = λ p at. omega (arith, same_Some _ _ e, counted t k i m b p at) }, λ x. let is : m + 1 ≡ n = omega (arith, x.count b.row b.stands, b.count) in ap Some is)

  pub paired_iff : (t : List (Row V W)) (k i j l m : ℕ) → Before t k i l → Before t k j m → (n : ℕ) → (Some (l + m) ≡ Some n) ↔ Paired t k n i j
  paired_iff t k i j l m b c n =
      (λ e. record { early = b.early; later = c.early; count = λ p q at at'. omega (arith, same_Some _ _ e, counted t k i l b p at, counted t k j m c q at') }, λ x. let is : l + m ≡ n = omega (arith, x.count b.row c.row b.stands c.stands, b.count, c.count) in ap Some is)

  pub taken_iff : (t : List (Row V W)) (i : ℕ) (o : Option ℕ) → o ≡ option_map (λ r. r.roads) (slice_get t i) → (n : ℕ) → (o ≡ Some n) ↔ TakenOver t (length t) n i
  taken_iff t i o is n = (
    λ e.
        let b = before_read t i n (sym is ∙ e) in
        record { early = b.early; count = λ p at. sym (counted t (length t) i n b p at) },
    λ x. is ∙ taken_read t i n x,
  )
