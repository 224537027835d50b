-- Every trip is covered by a row, or not better than some uncovered extension.
use Rattle.std.proofs.Common.{◌≡◌, ℕ, zero, suc, ◌+◌, ◌⊎◌, List, [], ◌∷◌, length, sym, refl, ap, ◌∙◌, subst, inl, inr, ⊎_elim, arith}
use Rattle.std.proofs.lemmas.Bool.{cases_eq, cases_order}
use Rattle.criteria.specs.Covers.{Covers, Precedes}
use Rattle.criteria.specs.Meaning.{Meaning, Laws}
use Rattle.roads.specs.declared.road.Road.{Road}
use Rattle.rows.specs.declared.row.Row.{Row}
use Rattle.rows.specs.declared.row.Source.TheVariants.{Extend}
use Rattle.rows.specs.Places.{RowAt, pair_of, pairs_at}
use Rattle.rows.proofs.Filter.{row_exists, at_place, from_place, two_places, pair_exists, pair_stands}
use Rattle.trips.specs.Pages.{Page}
use Rattle.trips.specs.Plans.{swept, Drivable, Drives}
use Rattle.trips.specs.Trips.{Use, onto, worth, worths}
use Rattle.trips.proofs.Elements.{at_one}
use Rattle.trips.proofs.Orders.{covers_trans, covers_both}
use Rattle.growth.specs.Growing.{Ahead, Covered, Extends, Fresh}
use Rattle.growth.specs.Grown.{Grown}
use Rattle.growth.proofs.Orders.{good_join, covers_decides, covers_ahead, ahead_trans, ahead_covered}

module _ {V W : Type 0} (a : Meaning V) (b : Meaning W) (la : Laws a) (lb : Laws b) where
  -- what some rows cover is covered with one more in front
  covered_tail : (r : Row V W) (rs : List (Row V W)) (q : Row V W) → Covered a b rs q → Covered a b (r ∷ rs) q
  covered_tail r rs q c = record { index = suc c.index; row = c.row; stands = (omega (arith, c.stands.0), c.stands.1); place = c.place; covers = c.covers }

  -- what rows cover is covered by the first, or by the others
  covered_from : (r : Row V W) (rs : List (Row V W)) (q : Row V W) (i : ℕ) (p : Row V W) → RowAt (r ∷ rs) i p → p.end ≡ q.end → Covers a b (pair_of p) (pair_of q) → ((r.end ≡ q.end) × Covers a b (pair_of r) (pair_of q)) ⊎ Covered a b rs q
  covered_from r rs q zero p (h, is) e c = inl (ap (λ z. z.end) (is r) ∙ e, subst (λ z. Covers a b (pair_of z) (pair_of q)) (sym (is r)) c)
  covered_from r rs q (suc i) p (h, is) e c = inr (record { index = i; row = p; stands = (omega arith, is); place = e; covers = c })

  -- whether a row covers another can be told
  pub decide_covered : (rs : List (Row V W)) (q : Row V W) → Covered a b rs q ⊎ (Covered a b rs q → ⊥)
  decide_covered [] q = inr (λ c. omega (arith, c.stands.0))
  decide_covered (r ∷ rs) q =
      ⊎_elim
      (λ c. inl (covered_tail r rs q c))
      (λ none. ⊎_elim
      (λ same. ⊎_elim
      (λ c. inl (record { index = 0; row = r; stands = (omega arith, λ d. refl); place = same; covers = c }))
      (λ apart. inr (λ c. ⊎_elim (λ (_, d). apart d) none (covered_from r rs q c.index c.row c.stands c.place c.covers)))
      (covers_decides la lb (pair_of r) (pair_of q)))
      (λ other. inr (λ c. ⊎_elim (λ (e, _). other e) none (covered_from r rs q c.index c.row c.stands c.place c.covers)))
      (cases_eq r.end q.end))
      (decide_covered rs q)

  module _ (roads : List Road) (origin : ℕ) (front rs : List (Row V W)) where
    -- a row at the place covers the pair
    pub record Met (place : ℕ) (x : V × W) : Type 0 where
      pub index : ℕ
      pub row : Row V W
      pub stands : RowAt rs index row
      pub ends : row.end ≡ place
      pub covers : Covers a b (pair_of row) x

    -- an uncovered extension is at least as good as the pair
    pub record Behind (x : V × W) : Type 0 where
      pub next : Row V W
      pub fresh : Fresh a b roads (length front) rs next
      pub ahead : Ahead a b (pair_of next) x

    -- a pair with one road more
    longer : V × W → List ℕ → V × W
    longer x marks = (a.join x.0 (a.value marks), b.join x.1 (b.value marks))

    -- one road more
    step : (s : ℕ) (x : V × W) (u : Use) (q : Road) → Drivable roads s u q → Met s x ⊎ Behind x → Met q.end (longer x u.marks) ⊎ Behind (longer x u.marks)
    unfolding longer
    step s x u q d status =
        ⊎_elim
        (λ m.
        let p = m.row in
        let r : Row V W = record { end = q.end; first = a.join p.first (a.value q.marks); second = b.join p.second (b.value q.marks); roads = p.roads + 1; source = Extend (length front + m.index) u.road } in
        let e : Extends a b roads (length front) rs m.index p u.road q r = record { row = m.stands; road = d.numbered; free = d.free; starts = d.starts ∙ sym m.ends; ends = refl; first = refl; second = refl; longer = refl; source = refl } in
        let over : Covers a b (pair_of r) (longer x u.marks) = subst (λ ms. Covers a b (pair_of r) (longer x ms)) (sym d.same) (record { first = la.monotone.after p.first x.0 (a.value q.marks) m.covers.first; second = lb.monotone.after p.second x.1 (b.value q.marks) m.covers.second }) in
        ⊎_elim
        (λ c. inl (record { index = c.index; row = c.row; stands = c.stands; ends = c.place; covers = covers_trans la lb (pair_of c.row) (pair_of r) (longer x u.marks) c.covers over }))
        (λ none. inr (record { next = r; fresh = record { index = m.index; row = p; number = u.road; road = q; extends = e; uncovered = none }; ahead = covers_ahead la lb (pair_of r) (longer x u.marks) over }))
        (decide_covered rs r))
        (λ f. inr (record {
          next = f.next;
          fresh = f.fresh;
          ahead = ahead_trans la lb (pair_of f.next) x (longer x u.marks) f.ahead (covers_ahead la lb x (longer x u.marks) (record { first = good_join la x.0 (a.value u.marks); second = good_join lb x.1 (b.value u.marks) }));
        }))
        status

    -- all roads of a trip
    steps : (us : List Use) (s e : ℕ) (x : V × W) → Drives roads s us e → Met s x ⊎ Behind x → Met e (onto a x.0 us, onto b x.1 us) ⊎ Behind (onto a x.0 us, onto b x.1 us)
    unfolding longer
    steps [] s e x d status = subst (λ z. Met z x ⊎ Behind x) d status
    steps (u ∷ us) s e x (q, (d, on)) status = steps us q.end e (longer x u.marks) on (step s x u q d status)

    module _ (g : Grown a b roads origin front rs) where
      -- every trip is covered where it ends, or an uncovered extension is at least as good
      pub status : (us : List Use) (e : ℕ) → Drives roads origin us e → Met e (worths a b us) ⊎ Behind (worths a b us)
      unfolding worth
      status us e d =
          let (p, at) = row_exists rs 0 g.some in
          let (ends, x, y) = g.seed p at in
          steps us origin e (a.unit, b.unit) d
          (inl (record { index = 0; row = p; stands = at; ends = ends; covers = record { first = subst (λ z. a.good z a.unit) (sym x) (la.best.unit a.unit); second = subst (λ z. b.good z b.unit) (sym y) (lb.best.unit b.unit) } }))

      -- no trip has values that cover a row's, but the row's own
      pub efficient : (i : ℕ) (p : Row V W) (us : List Use) → RowAt rs i p → Drives roads origin us p.end → Covers a b (worths a b us) (pair_of p) → worths a b us ≡ pair_of p
      efficient i p us at d c =
          ⊎_elim
          (λ m.
          let q = m.row in
          let over = covers_trans la lb (pair_of q) (worths a b us) (pair_of p) m.covers c in
          ⊎_elim
          (λ same.
          let is : q ≡ p = at_one rs i q p (subst (λ k. RowAt rs k q) same m.stands) at in
          covers_both la lb (worths a b us) (pair_of p) c (subst (λ z. Covers a b (pair_of z) (worths a b us)) is m.covers))
          (λ w. absurd (⊎_elim
          (λ lt. (g.ordered m.index i q p lt m.stands at m.ends).second.apart over.second)
          (λ gt. (g.ordered i m.index p q gt at m.stands (sym m.ends)).first.apart over.first)
          w))
          (cases_order m.index i))
          (λ f. covers_both la lb (worths a b us) (pair_of p) c (ahead_covered la lb (pair_of p) (worths a b us) (ahead_trans la lb (pair_of p) (pair_of f.next) (worths a b us) (g.ahead i p f.next at f.fresh) f.ahead) c))
          (status us p.end d)

      -- where no uncovered extension is left, the rows of each place are the page of the sweep
      pub page : (places : ℕ) → ((q : Row V W) → Fresh a b roads (length front) rs q → ⊥) → (e : ℕ) → Page a b (swept places roads origin) e (pairs_at e rs)
      page places none e = record {
        sound = λ k x (h, is).
            let (p, (at, same)) = pair_exists e rs k x h is in
            let f = from_place e rs k p at in
            let known = g.known f.index p f.stands in
            (known.uses, (subst (Drives roads origin known.uses) f.ends known.drives, sym same ∙ known.values));
        whole = λ us d. ⊎_elim
            (λ m.
            let (k, at) = at_place e rs m.index m.row m.stands m.ends in
            (k, (pair_of m.row, (pair_stands e rs k m.row at, m.covers))))
            (λ f. absurd (none f.next f.fresh))
            (status us e d);
        ordered = λ k l x y lt (h, is) (h', is').
            let (p, (at_p, same_p)) = pair_exists e rs k x h is in
            let (q, (at_q, same_q)) = pair_exists e rs l y h' is' in
            let t = two_places e rs k l p q lt at_p at_q in
            subst (λ z. Precedes a b z y) same_p (subst (λ z. Precedes a b (pair_of p) z) same_q (g.ordered t.left t.right p q t.less t.first t.second (t.first_ends ∙ sym t.second_ends)));
      }
