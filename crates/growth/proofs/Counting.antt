-- How many rows a sweep has, and how many of them are grown.
use Rattle.std.proofs.Common.{◌≡◌, ℕ, zero, suc, ◌+◌, ◌<◌, ◌≤◌, eqb, ◌⊎◌, List, [], ◌∷◌, ◌++◌, map, length, sym, refl, ap, ◌∙◌, subst, inl, inr, ⊎_elim, arith, true-eqb, false-eqb}
use lib.ListN.{length-map}
use Rattle.std.proofs.lemmas.List.{get_or-map, length_push}
use Rattle.std.proofs.lemmas.Bool.{cases_Bool, cond-true, cond-false}
use Rattle.criteria.specs.Orders.{strict_apart}
use Rattle.criteria.specs.Meaning.{Meaning, Laws}
use Rattle.roads.specs.declared.road.Road.{Road}
use Rattle.rows.specs.declared.row.Row.{Row}
use Rattle.rows.specs.declared.row.Source.TheVariants.{Empty}
use Rattle.rows.specs.Places.{RowAt, pair_of, rows_at, pairs_at}
use Rattle.rows.proofs.Filter.{row_exists}
use Rattle.trips.specs.Efficient.{Efficient, EfficientItems}
use Rattle.trips.specs.Elements.{At}
use Rattle.trips.specs.Pages.{Rows, all_rows}
use Rattle.trips.specs.Plans.{swept}
use Rattle.trips.proofs.RowCounts.{items_take_rows}
use Rattle.growth.specs.Complete.{Inside}
use Rattle.growth.specs.Growing.{Fresh, Next}
use Rattle.growth.specs.Grown.{Grown}
use Rattle.growth.proofs.Bounds.{ends_within}
use Rattle.growth.proofs.Invariant.{start, more}
use Rattle.growth.proofs.Wholeness.{efficient, page}

module _ {V W : Type 0} where
  -- a row as an item: its place and its pair
  abbrev item_of : Row V W → ℕ × (V × W)
  item_of r = (r.end, pair_of r)

  -- an item is that of a row
  item_row : (rs : List (Row V W)) (k : ℕ) (x : ℕ × (V × W)) → At (map item_of rs) k x → (p : Row V W) × (RowAt rs k p × (item_of p ≡ x))
  item_row rs k x (h, is) =
      let within : k < length rs = omega (arith, length-map rs item_of) in
      let (p, (l, e)) = row_exists rs k within in
      (p, ((l, e), sym (ap item_of (e p)) ∙ sym (get_or-map item_of rs k p x within) ∙ is x))

  -- a row counts at its own place, and at no other
  counts : (place : ℕ) (r : Row V W) (rs : List (Row V W)) → ((r.end ≡ place) × (length (pairs_at place (r ∷ rs)) ≡ length (pairs_at place rs) + 1)) ⊎ ((r.end ≡ place → ⊥) × (length (pairs_at place (r ∷ rs)) ≡ length (pairs_at place rs)))
  counts place r rs =
      let size : List (Row V W) → ℕ = λ l. length (map pair_of l) in
      ⊎_elim
      (λ t. inl (true-eqb r.end place (sym t), ap size (cond-true (eqb r.end place) (r ∷ rows_at place rs) (rows_at place rs) t) ∙ omega arith))
      (λ t. inr (false-eqb r.end place (sym t), ap size (cond-false (eqb r.end place) (r ∷ rows_at place rs) (rows_at place rs) t)))
      (cases_Bool (eqb r.end place))

module _ {V W : Type 0} (a : Meaning V) (b : Meaning W) where
  -- the number of rows that end at one of the first n places
  abbrev ending : List (Row V W) → ℕ → ℕ
  ending rs n = all_rows a b (λ place. pairs_at place rs) n

  -- a row does not count before its place
  not_yet : (r : Row V W) (rs : List (Row V W)) (n : ℕ) → n ≤ r.end → ending (r ∷ rs) n ≡ ending rs n
  not_yet r rs zero h = refl
  not_yet r rs (suc n) h =
      let before = not_yet r rs n (omega arith) in
      ⊎_elim (λ (e, _). absurd (omega arith)) (λ (_, e). omega arith) (counts n r rs)

  -- from its place on, it counts once
  one_more : (r : Row V W) (rs : List (Row V W)) (n : ℕ) → r.end < n → ending (r ∷ rs) n ≡ ending rs n + 1
  one_more r rs zero h = absurd (omega arith)
  one_more r rs (suc n) h =
      ⊎_elim
      (λ (is, e). let before = not_yet r rs n (omega arith) in omega arith)
      (λ (other, e). let before = one_more r rs n (omega arith) in omega arith)
      (counts n r rs)

  -- no rows
  ending_none : (n : ℕ) → ending [] n ≡ 0
  ending_none zero = refl
  ending_none (suc n) = let before = ending_none n in omega arith

  -- rows that all end at one of the first n places
  all_end : (rs : List (Row V W)) (n : ℕ) → ((i : ℕ) (p : Row V W) → RowAt rs i p → p.end < n) → ending rs n ≡ length rs
  all_end [] n low = ending_none n
  all_end (r ∷ rs) n low =
      let here = one_more r rs n (low 0 r (omega arith, λ d. refl)) in
      let rest = all_end rs n (λ i p (h, is). low (suc i) p (omega arith, is)) in
      omega arith

module _ {V W : Type 0} {a : Meaning V} {b : Meaning W} (la : Laws a) (lb : Laws b) (places : ℕ) (roads : List Road) (origin : ℕ) (inside : Inside places roads origin) where
  module _ (front rs : List (Row V W)) (g : Grown a b roads origin front rs) where
    -- every row ends at a place of the network
    within : (i : ℕ) (p : Row V W) → RowAt rs i p → p.end < places
    within = ends_within a b la lb roads origin front rs g places inside.named inside.begins

    -- the rows are different items, each efficient
    items : EfficientItems a b places (swept places roads origin) (map item_of rs)
    items = record {
      each = λ k x at.
          let (p, (stands, is)) = item_row rs k x at in
          let known = g.known k p stands in
          subst (λ y. (y.0 < places) × Efficient a b (swept places roads origin) y.0 y.1) is (
            within k p stands,
            record {
              some = (known.uses, (known.drives, known.values));
              best = λ us goes c. efficient a b la lb roads origin front rs g k p us stands goes c;
            },
          );
      apart = λ j k x lt at_j at_k.
          let (p, (first, is)) = item_row rs j x at_j in
          let (q, (second, is')) = item_row rs k x at_k in
          let same = is ∙ sym is' in
          strict_apart (g.ordered j k p q lt first second (ap (λ y. y.0) same)).first (ap (λ y. y.1.0) same);
    }

    -- so they are at most as many as the sweep has rows
    pub at_most : (n : ℕ) → Rows a b places (swept places roads origin) n → length rs ≤ n
    at_most n rows = omega (arith, items_take_rows la lb places (swept places roads origin) n (map item_of rs) rows items, length-map rs item_of)

    -- and exactly as many where no uncovered extension is left
    pub exactly : ((q : Row V W) → Fresh a b roads (length front) rs q → ⊥) → Rows a b places (swept places roads origin) (length rs)
    exactly none = record {
      pages = λ place. pairs_at place rs;
      each = λ place _. page a b la lb roads origin front rs g places none place;
      count = sym (all_end a b rs places within);
    }

  -- a row that is still to come takes one more
  pub room : (front rs : List (Row V W)) (r : Row V W) (n : ℕ) → Grown a b roads origin front rs → Next a b roads (length front) rs r → Rows a b places (swept places roads origin) n → length rs < n
  room front rs r n g next rows =
      let full = at_most front (rs ++ r ∷ []) (more a b la lb roads origin front rs g r next) n rows in
      omega (arith, length_push rs r)

  -- the row of the empty trip takes one
  pub some_row : (n : ℕ) → Rows a b places (swept places roads origin) n → 0 < n
  some_row n rows =
      let r : Row V W = record { end = origin; first = a.unit; second = b.unit; roads = 0; source = Empty } in
      let one = at_most [] (r ∷ []) (start a b la lb roads origin [] r refl refl refl refl refl) n rows in
      omega arith

  -- with a row that is still to come there are more efficient pairs than rows
  pub crowd : (front rs : List (Row V W)) (r : Row V W) → Grown a b roads origin front rs → Next a b roads (length front) rs r → (xs : List (ℕ × (V × W))) × ((length rs < length xs) × EfficientItems a b places (swept places roads origin) xs)
  crowd front rs r g next =
      let all = rs ++ r ∷ [] in
      (map item_of all, (omega (arith, length-map all item_of, length_push rs r), items front all (more a b la lb roads origin front rs g r next)))

  -- the empty trip alone is one
  pub crowd_one : (xs : List (ℕ × (V × W))) × ((0 < length xs) × EfficientItems a b places (swept places roads origin) xs)
  crowd_one =
      let r : Row V W = record { end = origin; first = a.unit; second = b.unit; roads = 0; source = Empty } in
      (map item_of (r ∷ []), (omega arith, items [] (r ∷ []) (start a b la lb roads origin [] r refl refl refl refl refl)))
