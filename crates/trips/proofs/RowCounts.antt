-- A plan has one number of rows at most, and different efficient pairs take a row each.
use Rattle.std.proofs.Common.{◌≡◌, ℕ, zero, suc, ◌+◌, ◌<◌, ◌≤◌, List, length, sym, refl, ap, ◌∙◌, subst, ⊎_elim, arith}
use Rattle.std.proofs.lemmas.Bool.{cases_lt, cases_order}
use Rattle.criteria.specs.Meaning.{Meaning, Laws}
use Rattle.trips.specs.Efficient.{UniqueRows, EfficientItems, ItemsTakeRows}
use Rattle.trips.specs.Elements.{At}
use Rattle.trips.specs.Pages.{PairAt, all_rows, Rows}
use Rattle.trips.specs.Plans.{Plan}
use Rattle.trips.proofs.Efficient.{efficient_on_page}
use Rattle.trips.proofs.Elements.{at_one, at_some}
use Rattle.trips.proofs.Pages.{unique_page}
use Rattle.trips.proofs.Pigeonhole.{pigeonhole}

module _ {V W : Type 0} (a : Meaning V) (b : Meaning W) where
  -- the rows of a place stand before those of the places behind it
  all_rows_more : (pages : ℕ → List (V × W)) (p n : ℕ) → p < n → all_rows a b pages p + length (pages p) ≤ all_rows a b pages n
  all_rows_more pages p zero lt = absurd (omega arith)
  all_rows_more pages p (suc n) lt =
      ⊎_elim
      (λ low. let less = all_rows_more pages p n low in omega arith)
      (λ high. let e : n ≡ p = omega arith in subst (λ k. all_rows a b pages p + length (pages p) ≤ all_rows a b pages k + length (pages k)) (sym e) (omega arith))
      (cases_lt p n)

  all_rows_same : (pages others : ℕ → List (V × W)) (n : ℕ) → ((p : ℕ) → p < n → pages p ≡ others p) → all_rows a b pages n ≡ all_rows a b others n
  all_rows_same pages others zero same = refl
  all_rows_same pages others (suc n) same =
      let rest = all_rows_same pages others n (λ p lt. same p (omega arith)) in
      let last = ap length (same n (omega arith)) in
      omega arith

  -- rows of one place that have one number have one pair
  one_pair : (pages : ℕ → List (V × W)) (p q i j : ℕ) (x y : V × W) → PairAt a b (pages p) i x → PairAt a b (pages q) j y → p ≡ q → all_rows a b pages p + i ≡ all_rows a b pages q + j → ◌≡◌ {A = ℕ × (V × W)} (p, x) (q, y)
  one_pair pages p q i j x y h k same e =
      let begins = ap (all_rows a b pages) same in
      let f : i ≡ j = omega arith in
      let g = at_one (pages q) j x y (subst (λ l. PairAt a b (pages q) l x) f (subst (λ l. PairAt a b (pages l) i x) same h)) k in
      (λ l. (same l, g l))

  -- so a row's number tells its place and its pair
  one_row : (pages : ℕ → List (V × W)) (p q i j : ℕ) (x y : V × W) → PairAt a b (pages p) i x → PairAt a b (pages q) j y → all_rows a b pages p + i ≡ all_rows a b pages q + j → ◌≡◌ {A = ℕ × (V × W)} (p, x) (q, y)
  one_row pages p q i j x y h k e =
      let low = h.0 in
      let low' = k.0 in
      ⊎_elim
      (λ same. one_pair pages p q i j x y h k same e)
      (⊎_elim (λ lt. let more = all_rows_more pages p q lt in absurd (omega arith)) (λ gt. let more = all_rows_more pages q p gt in absurd (omega arith)))
      (cases_order p q)

module _ {V W : Type 0} {a : Meaning V} {b : Meaning W} (la : Laws a) (lb : Laws b) where
  pub unique_rows : UniqueRows a b
  unique_rows places plan m n r s =
      r.count
      ∙ all_rows_same a b r.pages s.pages places (λ p lt. unique_page la lb plan p (r.pages p) (s.pages p) (r.each p lt) (s.each p lt))
      ∙ sym s.count

  module _ (places : ℕ) (plan : Plan) (n : ℕ) (items : List (ℕ × (V × W))) (rows : Rows a b places plan n) (good : EfficientItems a b places plan items) where
    -- w is the number of the row that item k takes, counted from the first place on
    record Spot (k w : ℕ) : Type 0 where
      item : ℕ × (V × W)
      index : ℕ
      stands : At items k item
      takes : PairAt a b (rows.pages item.0) index item.1
      is : w ≡ all_rows a b rows.pages item.0 + index

    spot : (k : ℕ) → k < length items → (w : ℕ) × Spot k w
    spot k lt =
        let (x, h) = at_some items k lt in
        let (within, efficient) = good.each k x h in
        let (i, t) = efficient_on_page la lb plan x.0 (rows.pages x.0) (rows.each x.0 within) x.1 efficient in
        (all_rows a b rows.pages x.0 + i, record { item = x; index = i; stands = h; takes = t; is = refl })

    -- a number for each index, that of the item's row where an item stands
    number : (k : ℕ) → (w : ℕ) × (k < length items → Spot k w)
    number k = ⊎_elim (λ lt. let (w, s) = spot k lt in (w, λ _. s)) (λ high. (0, λ lt. absurd (omega arith))) (cases_lt k (length items))

    spot_below : (k w : ℕ) → Spot k w → w < n
    spot_below k w s =
        let more = all_rows_more a b rows.pages s.item.0 places (good.each k s.item s.stands).0 in
        let low = s.takes.0 in
        let e = s.is in
        let f = rows.count in
        omega arith

    spot_apart : (j k v w : ℕ) → j < k → Spot j v → Spot k w → v ≡ w → ⊥
    spot_apart j k v w lt s t e =
        let same = one_row a b rows.pages s.item.0 t.item.0 s.index t.index s.item.1 t.item.1 s.takes t.takes (sym s.is ∙ e ∙ t.is) in
        good.apart j k t.item lt (subst (λ o. At items j o) same s.stands) t.stands

    length_at_most : length items ≤ n
    length_at_most =
        pigeonhole
        (λ k. (number k).0)
        (length items)
        n
        (λ k lt. spot_below k (number k).0 ((number k).1 lt))
        (λ j k lt within. spot_apart j k (number j).0 (number k).0 lt ((number j).1 (omega arith)) ((number k).1 within))

  pub items_take_rows : ItemsTakeRows a b
  items_take_rows = length_at_most
