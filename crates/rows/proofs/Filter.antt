-- The rows of a place among all rows.
use Rattle.std.proofs.Common.{◌≡◌, ℕ, zero, suc, ◌<◌, true, false, cond, eqb, ◌⊎◌, List, [], ◌∷◌, length, get_or, sym, refl, ap, ◌∙◌, subst, inl, inr, ⊎_elim, arith, true-eqb, false-eqb}
use lib.ListN.{length-map}
use Rattle.std.proofs.lemmas.List.{get_or-map}
use Rattle.rows.specs.declared.row.Row.{Row}
use Rattle.rows.specs.Places.{RowAt, pair_of, rows_at, pairs_at}

module _ {V W : Type 0} where
  -- below the length there is a row
  pub row_exists : (rs : List (Row V W)) (i : ℕ) → i < length rs → (p : Row V W) × RowAt rs i p
  row_exists [] i h = absurd (omega arith)
  row_exists (r ∷ rs) zero h = (r, (h, λ d. refl))
  row_exists (r ∷ rs) (suc i) h = let (p, (l, e)) = row_exists rs i (omega arith) in (p, (h, e))

  pub at_tail : (r : Row V W) (rs : List (Row V W)) (i : ℕ) (p : Row V W) → RowAt rs i p → RowAt (r ∷ rs) (suc i) p
  at_tail r rs i p (h, e) = (omega arith, e)

  from_tail : (r : Row V W) (rs : List (Row V W)) (i : ℕ) (p : Row V W) → RowAt (r ∷ rs) (suc i) p → RowAt rs i p
  from_tail r rs i p (h, e) = (omega arith, e)

  -- whether the first row is one of the place
  here_or_not : (place : ℕ) (r : Row V W) (rs : List (Row V W)) → ((r.end ≡ place) × (rows_at place (r ∷ rs) ≡ r ∷ rows_at place rs)) ⊎ ((r.end ≡ place → ⊥) × (rows_at place (r ∷ rs) ≡ rows_at place rs))
  here_or_not place r rs =
      elim (eqb r.end place) as (λ b. eqb r.end place ≡ b → ((r.end ≡ place) × (cond b (r ∷ rows_at place rs) (rows_at place rs) ≡ r ∷ rows_at place rs)) ⊎ ((r.end ≡ place → ⊥) × (cond b (r ∷ rows_at place rs) (rows_at place rs) ≡ rows_at place rs))) [
        | true ↦ λ e. inl (true-eqb r.end place (sym e), refl)
        | false ↦ λ e. inr (false-eqb r.end place (sym e), refl)
      ] refl

  -- a row of the place stands among them
  pub at_place : (place : ℕ) (rs : List (Row V W)) (i : ℕ) (p : Row V W) → RowAt rs i p → p.end ≡ place → (k : ℕ) × RowAt (rows_at place rs) k p
  at_place place [] i p (h, _) e = absurd (omega arith)
  at_place place (r ∷ rs) zero p (h, is) e =
      ⊎_elim
      (λ (_, same). (0, subst (λ l. RowAt l 0 p) (sym same) (omega arith, is)))
      (λ (other, _). absurd (other (ap (λ q. q.end) (is r) ∙ e)))
      (here_or_not place r rs)
  at_place place (r ∷ rs) (suc i) p at e =
      let (k, found) = at_place place rs i p (from_tail r rs i p at) e in
      ⊎_elim
      (λ (_, same). (suc k, subst (λ l. RowAt l (suc k) p) (sym same) (at_tail r (rows_at place rs) k p found)))
      (λ (_, same). (k, subst (λ l. RowAt l k p) (sym same) found))
      (here_or_not place r rs)

  -- where a row of the place stands among all
  pub record Found (place : ℕ) (rs : List (Row V W)) (p : Row V W) : Type 0 where
    pub index : ℕ
    pub stands : RowAt rs index p
    pub ends : p.end ≡ place

  found_later : (place : ℕ) (r : Row V W) (rs : List (Row V W)) (p : Row V W) → Found place rs p → Found place (r ∷ rs) p
  found_later place r rs p f = record { index = suc f.index; stands = at_tail r rs f.index p f.stands; ends = f.ends }

  found_more : (place : ℕ) (r : Row V W) (rs : List (Row V W)) (k : ℕ) (p : Row V W) → ((l : ℕ) → RowAt (rows_at place rs) l p → Found place rs p) → r.end ≡ place → RowAt (r ∷ rows_at place rs) k p → Found place (r ∷ rs) p
  found_more place r rs zero p on e (h, is) = record { index = 0; stands = (omega arith, is); ends = sym (ap (λ q. q.end) (is r)) ∙ e }
  found_more place r rs (suc k) p on e at = found_later place r rs p (on k (from_tail r (rows_at place rs) k p at))

  pub from_place : (place : ℕ) (rs : List (Row V W)) (k : ℕ) (p : Row V W) → RowAt (rows_at place rs) k p → Found place rs p
  from_place place [] k p (h, _) = absurd (omega arith)
  from_place place (r ∷ rs) k p at =
      ⊎_elim
      (λ (e, same). found_more place r rs k p (λ l. from_place place rs l p) e (subst (λ l. RowAt l k p) same at))
      (λ (_, same). found_later place r rs p (from_place place rs k p (subst (λ l. RowAt l k p) same at)))
      (here_or_not place r rs)

  -- two rows of the place, in their order
  pub record Two (place : ℕ) (rs : List (Row V W)) (p q : Row V W) : Type 0 where
    pub left : ℕ
    pub right : ℕ
    pub less : left < right
    pub first : RowAt rs left p
    pub second : RowAt rs right q
    pub first_ends : p.end ≡ place
    pub second_ends : q.end ≡ place

  two_later : (place : ℕ) (r : Row V W) (rs : List (Row V W)) (p q : Row V W) → Two place rs p q → Two place (r ∷ rs) p q
  two_later place r rs p q t = record {
    left = suc t.left;
    right = suc t.right;
    less = omega (arith, t.less);
    first = at_tail r rs t.left p t.first;
    second = at_tail r rs t.right q t.second;
    first_ends = t.first_ends;
    second_ends = t.second_ends;
  }

  two_more : (place : ℕ) (r : Row V W) (rs : List (Row V W)) (k l : ℕ) (p q : Row V W) → ((k' l' : ℕ) → k' < l' → RowAt (rows_at place rs) k' p → RowAt (rows_at place rs) l' q → Two place rs p q) → r.end ≡ place → k < l → RowAt (r ∷ rows_at place rs) k p → RowAt (r ∷ rows_at place rs) l q → Two place (r ∷ rs) p q
  two_more place r rs k zero p q on e lt at_p at_q = absurd (omega arith)
  two_more place r rs zero (suc l) p q on e lt (h, is) at_q =
      let f = from_place place rs l q (from_tail r (rows_at place rs) l q at_q) in
      record { left = 0; right = suc f.index; less = omega arith; first = (omega arith, is); second = at_tail r rs f.index q f.stands; first_ends = sym (ap (λ z. z.end) (is r)) ∙ e; second_ends = f.ends }
  two_more place r rs (suc k) (suc l) p q on e lt at_p at_q =
      two_later place r rs p q (on k l (omega arith) (from_tail r (rows_at place rs) k p at_p) (from_tail r (rows_at place rs) l q at_q))

  pub two_places : (place : ℕ) (rs : List (Row V W)) (k l : ℕ) (p q : Row V W) → k < l → RowAt (rows_at place rs) k p → RowAt (rows_at place rs) l q → Two place rs p q
  two_places place [] k l p q lt (h, _) at_q = absurd (omega arith)
  two_places place (r ∷ rs) k l p q lt at_p at_q =
      ⊎_elim
      (λ (e, same). two_more place r rs k l p q (λ k' l'. two_places place rs k' l' p q) e lt (subst (λ z. RowAt z k p) same at_p) (subst (λ z. RowAt z l q) same at_q))
      (λ (_, same). two_later place r rs p q (two_places place rs k l p q lt (subst (λ z. RowAt z k p) same at_p) (subst (λ z. RowAt z l q) same at_q)))
      (here_or_not place r rs)

  -- a pair of the place is that of a row
  pub pair_exists : (place : ℕ) (rs : List (Row V W)) (k : ℕ) (x : V × W) → k < length (pairs_at place rs) → ((d : V × W) → get_or (pairs_at place rs) k d ≡ x) → (p : Row V W) × (RowAt (rows_at place rs) k p × (pair_of p ≡ x))
  pair_exists place rs k x h is =
      let at = rows_at place rs in
      let within : k < length at = omega (arith, length-map at pair_of) in
      let (p, (l, e)) = row_exists at k within in
      (p, ((l, e), sym (ap pair_of (e p)) ∙ sym (get_or-map pair_of at k p x within) ∙ is x))

  -- and a row's pair is one of the place
  pub pair_stands : (place : ℕ) (rs : List (Row V W)) (k : ℕ) (p : Row V W) → RowAt (rows_at place rs) k p → (k < length (pairs_at place rs)) × ((d : V × W) → get_or (pairs_at place rs) k d ≡ pair_of p)
  pair_stands place rs k p (h, e) =
      let at = rows_at place rs in
      (omega (arith, length-map at pair_of), λ d. get_or-map pair_of at k p d h ∙ ap pair_of (e p))
