-- The rows of a place among those of a sheet, one by one.
use Rattle.std.proofs.Common.{◌≡◌, ℕ, ◌+◌, ◌-◌, ◌<◌, ◌≤◌, min, true, false, cond, eqb, List, [], ◌∷◌, ◌++◌, length, take, drop, sym, refl, ap, ◌∙◌, subst, append-nil, arith, length-append, length-drop, take-append-drop, length-take, eq-eqb, ne_eqb}
use Rattle.std.proofs.lemmas.List.{get_or-take, get_or-drop, get_or_at, take_more, drop_more, length_push}
use Rattle.rows.specs.declared.row.Row.{Row}
use Rattle.rows.specs.declared.sheet.Sheet.{Sheet}
use Rattle.rows.specs.Places.{RowAt, rows_at, rows_of, Position, StandsAt}

module _ {V W : Type 0} where
  -- the rows of a place in two lists
  pub rows-++ : (place : ℕ) (xs ys : List (Row V W)) → rows_at place (xs ++ ys) ≡ rows_at place xs ++ rows_at place ys
  rows-++ place [] ys = refl
  rows-++ place (x ∷ xs) ys =
      elim (eqb x.end place) as (λ b. cond b (x ∷ rows_at place (xs ++ ys)) (rows_at place (xs ++ ys)) ≡ cond b (x ∷ rows_at place xs) (rows_at place xs) ++ rows_at place ys) [
        | true ↦ ap (λ l. x ∷ l) (rows-++ place xs ys)
        | false ↦ rows-++ place xs ys
      ]

  -- a row of the place, alone
  alone_here : (place : ℕ) (r : Row V W) → r.end ≡ place → rows_at place (r ∷ []) ≡ r ∷ []
  alone_here place r e = ap (λ b. cond b (r ∷ []) []) (eq-eqb r.end place e)

  alone_not : (place : ℕ) (r : Row V W) → (r.end ≡ place → ⊥) → rows_at place (r ∷ []) ≡ []
  alone_not place r e = ap (λ b. cond b (r ∷ []) []) (ne_eqb r.end place e)

  one_more : (place : ℕ) (xs : List (Row V W)) (i : ℕ) (r : Row V W) → RowAt xs i r → rows_at place (take (i + 1) xs) ≡ rows_at place (take i xs) ++ rows_at place (r ∷ [])
  one_more place xs i r (h, is) =
      ap (rows_at place) (take_more xs i r h ∙ ap (λ q. take i xs ++ q ∷ []) (is r)) ∙ rows-++ place (take i xs) (r ∷ [])

  -- n of the first i rows end at the place
  pub record Counted (place : ℕ) (xs : List (Row V W)) (i n : ℕ) : Type 0 where
    pub is : n ≡ length (rows_at place (take i xs))
    pub few : n ≤ i

  -- the first j rows have one row of the place more than the first i, or as many
  more_here : (place : ℕ) (xs : List (Row V W)) (i j : ℕ) (r : Row V W) → j ≡ i + 1 → RowAt xs i r → r.end ≡ place → rows_at place (take j xs) ≡ rows_at place (take i xs) ++ r ∷ []
  more_here place xs i j r s at e = ap (λ k. rows_at place (take k xs)) s ∙ one_more place xs i r at ∙ ap (λ l. rows_at place (take i xs) ++ l) (alone_here place r e)

  more_not : (place : ℕ) (xs : List (Row V W)) (i j : ℕ) (r : Row V W) → j ≡ i + 1 → RowAt xs i r → (r.end ≡ place → ⊥) → rows_at place (take j xs) ≡ rows_at place (take i xs)
  more_not place xs i j r s at e = ap (λ k. rows_at place (take k xs)) s ∙ one_more place xs i r at ∙ ap (λ l. rows_at place (take i xs) ++ l) (alone_not place r e) ∙ append-nil (rows_at place (take i xs))

  pub counted_here : (place : ℕ) (xs : List (Row V W)) (i j n : ℕ) (r : Row V W) → Counted place xs i n → j ≡ i + 1 → RowAt xs i r → r.end ≡ place → Counted place xs j (n + 1)
  counted_here place xs i j n r c s at e = record { is = omega (arith, ap length (more_here place xs i j r s at e), length_push (rows_at place (take i xs)) r, c.is); few = omega (arith, c.few) }

  pub counted_not : (place : ℕ) (xs : List (Row V W)) (i j n : ℕ) (r : Row V W) → Counted place xs i n → j ≡ i + 1 → RowAt xs i r → (r.end ≡ place → ⊥) → Counted place xs j n
  counted_not place xs i j n r c s at e = record { is = c.is ∙ ap length (sym (more_not place xs i j r s at e)); few = omega (arith, c.few) }

  -- the last of the first i rows that end at the place is that before row n; there is none where n is 0
  pub record LastBefore (place : ℕ) (xs : List (Row V W)) (i n : ℕ) : Type 0 where
    pub few : n ≤ i
    pub none : n ≡ 0 → length (rows_at place (take i xs)) ≡ 0
    pub some : (k : ℕ) → n ≡ k + 1 → (r : Row V W) × RowAt xs k r × RowAt (rows_at place (take i xs)) (length (rows_at place (take i xs)) - 1) r

  pub last_here : (place : ℕ) (xs : List (Row V W)) (i j : ℕ) (r : Row V W) → j ≡ i + 1 → RowAt xs i r → r.end ≡ place → LastBefore place xs j (i + 1)
  last_here place xs i j r s at e =
      let front = rows_at place (take i xs) in
      let here : RowAt (rows_at place (take j xs)) (length (rows_at place (take j xs)) - 1) r =
      subst (λ l. RowAt l (length l - 1) r) (sym (more_here place xs i j r s at e))
      (omega (arith, length_push front r), λ d. get_or_at front r [] d (length (front ++ r ∷ []) - 1) (omega (arith, length_push front r))) in
      record {
        few = omega (arith, s);
        none = λ z. absurd (omega (arith, z));
        some = λ k same. (r, subst (λ m. RowAt xs m r) (omega (arith, same)) at, here);
      }

  pub last_not : (place : ℕ) (xs : List (Row V W)) (i j n : ℕ) (r : Row V W) → LastBefore place xs i n → j ≡ i + 1 → RowAt xs i r → (r.end ≡ place → ⊥) → LastBefore place xs j n
  last_not place xs i j n r l s at e =
      let same : rows_at place (take i xs) ≡ rows_at place (take j xs) = sym (more_not place xs i j r s at e) in
      record {
        few = omega (arith, s, l.few);
        none = λ z. ap length (sym same) ∙ l.none z;
        some = λ k is. let (x, stands, last) = l.some k is in (x, stands, subst (λ all. RowAt all (length all - 1) x) same last);
      }

  -- the row behind n others of its place is that of index n
  pub among_at : (place : ℕ) (xs : List (Row V W)) (i n : ℕ) (r : Row V W) → Counted place xs i n → RowAt xs i r → r.end ≡ place → RowAt (rows_at place xs) n r
  among_at place xs i n r c (h, is) e =
      let front = rows_at place (take i xs) in
      let back = rows_at place (drop (i + 1) xs) in
      let split : xs ≡ take i xs ++ (r ∷ drop (i + 1) xs) = sym (take-append-drop i xs) ∙ ap (λ l. take i xs ++ l) (drop_more xs i r h ∙ ap (λ q. q ∷ drop (i + 1) xs) (is r)) in
      let rows : rows_at place xs ≡ front ++ r ∷ back =
      ap (rows_at place) split ∙ rows-++ place (take i xs) (r ∷ drop (i + 1) xs) ∙ ap (λ l. front ++ l) (rows-++ place (r ∷ []) (drop (i + 1) xs) ∙ ap (λ l. l ++ back) (alone_here place r e)) in
      subst (λ l. RowAt l n r) (sym rows) (omega (arith, length-append front (r ∷ back), c.is), λ d. get_or_at front r back d n (sym c.is))

  -- how many rows of a sheet the table has
  pub many : (s : Sheet) (t : List (Row V W)) → length (rows_of s t) ≡ min s.len (length t - s.start)
  many s t = length-take s.len (drop s.start t) ∙ ap (λ n. min s.len n) (length-drop s.start t)

  -- where a row of the sheet stands in the table
  pub stands_at : (s : Sheet) (t : List (Row V W)) (place i k : ℕ) → Position (rows_of s t) place i k → StandsAt t s place i (s.start + k)
  stands_at s t place i k p =
      let (h, is) = p.stands in
      let within : k < s.len = omega (arith, many s t) in
      record {
        from = omega arith;
        below = omega arith;
        row = p.row;
        stands = (omega (arith, many s t), λ d. sym (get_or-drop s.start t k d) ∙ sym (get_or-take s.len (drop s.start t) k d within) ∙ is d);
        among = p.among;
      }
