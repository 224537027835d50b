-- What is known of rows that were grown, each the best uncovered extension of those before it.
use Rattle.std.proofs.Common.{◌≡◌, ℕ, ◌+◌, ◌⊎◌, List, [], ◌∷◌, ◌++◌, map, length, get_or, sym, refl, ap, ◌∙◌, subst, inl, inr, ⊎_elim, append_assoc, arith}
use Rattle.std.proofs.lemmas.List.{get_or_append_left, get_or_push, length_push, map_push}
use Rattle.std.proofs.lemmas.Bool.{cases_lt}
use Rattle.criteria.specs.Covers.{Covers, Precedes}
use Rattle.criteria.specs.Meaning.{Meaning, Laws}
use Rattle.roads.specs.declared.road.Road.{Road}
use Rattle.rows.specs.declared.row.Row.{Row}
use Rattle.rows.specs.declared.row.Source.TheVariants.{Empty}
use Rattle.rows.specs.Places.{pair_of}
use Rattle.rows.specs.Trails.{Trail, empty, extend}
use Rattle.trips.specs.Plans.{Drivable, Drives}
use Rattle.trips.specs.Trips.{Use, worth}
use Rattle.trips.proofs.Orders.{covers_same, covers_trans}
use Rattle.trips.proofs.Worths.{worth_more}
use Rattle.growth.specs.Grown.{Passed, Known, Grown}
use Rattle.growth.specs.Growing.{Ahead, Covered, Extends, Fresh, Next}
use Rattle.growth.proofs.Orders.{good_join, covers_ahead, ahead_trans, ahead_precedes}
use Rattle.growth.proofs.Stops.{drives_more, visits_more, distinct_more}
use Rattle.growth.proofs.Tables.{at_left, at_last, at_push, at_behind, trail_more}

module _ {V W : Type 0} (a : Meaning V) (b : Meaning W) (la : Laws a) (lb : Laws b) (roads : List Road) (origin : ℕ) (front : List (Row V W)) where
  -- rows that are added leave a place passed
  passed_more : (rs xs : List (Row V W)) (p : Row V W) (place : ℕ) → Passed a b roads origin front rs p place → Passed a b roads origin front (rs ++ xs) p place
  passed_more rs xs p place h = record { index = h.index; row = h.row; stands = at_left rs xs h.index h.row h.stands; ends = h.ends; covers = h.covers }

  -- and a row known
  known_more : (rs xs : List (Row V W)) (i : ℕ) (p : Row V W) → Known a b roads origin front rs i p → Known a b roads origin front (rs ++ xs) i p
  known_more rs xs i p h = record {
    uses = h.uses;
    stops = h.stops;
    drives = h.drives;
    values = h.values;
    count = h.count;
    trail = subst (λ t. Trail t (length front + i) (map (λ u. u.road) h.uses)) (append_assoc front rs xs) (trail_more (front ++ rs) xs (length front + i) (map (λ u. u.road) h.uses) h.trail);
    visits = h.visits;
    distinct = h.distinct;
    passed = λ k lt. passed_more rs xs p (get_or h.stops k 0) (h.passed k lt);
  }

  -- and a row covered
  covered_more : (rs xs : List (Row V W)) (q : Row V W) → Covered a b rs q → Covered a b (rs ++ xs) q
  covered_more rs xs q h = record { index = h.index; row = h.row; stands = at_left rs xs h.index h.row h.stands; place = h.place; covers = h.covers }

  -- an extension is no better than what it extends
  extends_covers : (rs : List (Row V W)) (i : ℕ) (p : Row V W) (j : ℕ) (q : Road) (r : Row V W) → Extends a b roads (length front) rs i p j q r → Covers a b (pair_of p) (pair_of r)
  extends_covers rs i p j q r e = record {
    first = subst (a.good p.first) (sym e.first) (good_join la p.first (a.value q.marks));
    second = subst (b.good p.second) (sym e.second) (good_join lb p.second (b.value q.marks));
  }

  -- the one row of the empty trip
  pub start : (r : Row V W) → r.end ≡ origin → r.first ≡ a.unit → r.second ≡ b.unit → r.roads ≡ 0 → r.source ≡ Empty → Grown a b roads origin front (r ∷ [])
  unfolding worth
  start r at_o x y none src = record {
    seed = λ p (_, is). let e : p ≡ r = sym (is r) in (ap (λ q. q.end) e ∙ at_o, ap (λ q. q.first) e ∙ x, ap (λ q. q.second) e ∙ y);
    some = omega arith;
    known = λ i p (h, is).
        let zero_i : i ≡ 0 = omega arith in
        let e : p ≡ r = sym (is r) ∙ ap (λ k. get_or (r ∷ []) k r) zero_i in
        record {
          uses = [];
          stops = origin ∷ [];
          drives = sym (ap (λ q. q.end) e ∙ at_o);
          values = λ k. ((ap (λ q. q.first) e ∙ x) k, (ap (λ q. q.second) e ∙ y) k);
          count = sym (ap (λ q. q.roads) e ∙ none);
          trail = empty p (at_behind front (r ∷ []) i p (h, is)) (ap (λ q. q.source) e ∙ src);
          visits = refl;
          distinct = λ j k lt within eq. omega arith;
          passed = λ k lt. let zero_k : k ≡ 0 = omega arith in record {
            index = i;
            row = p;
            stands = (h, is);
            ends = ap (λ q. q.end) e ∙ at_o ∙ sym (ap (λ n. get_or (origin ∷ []) n 0) zero_k);
            covers = covers_same la lb (pair_of p);
          };
        };
    ordered = λ i j p q lt (hp, _) (hq, _) same. absurd (omega arith);
    ahead = λ i p q (h, is) fresh.
        let zero_i : i ≡ 0 = omega arith in
        let e : p ≡ r = sym (is r) ∙ ap (λ k. get_or (r ∷ []) k r) zero_i in
        covers_ahead la lb (pair_of p) (pair_of q) (record {
          first = subst (λ z. a.good z q.first) (sym (ap (λ q'. q'.first) e ∙ x)) (la.best.unit q.first);
          second = subst (λ z. b.good z q.second) (sym (ap (λ q'. q'.second) e ∙ y)) (lb.best.unit q.second);
        });
  }

  module _ (rs : List (Row V W)) (g : Grown a b roads origin front rs) (r : Row V W) (n : Next a b roads (length front) rs r) where
    -- the row to come, as an uncovered extension
    f : Fresh a b roads (length front) rs r
    f = n.fresh

    -- what the new row is known by
    known_new : Known a b roads origin front (rs ++ r ∷ []) (length rs) r
    unfolding f known_more
    known_new =
        let p = f.row in
        let q = f.road in
        let e = f.extends in
        let k = g.known f.index p e.row in
        let u : Use = record { road = f.number; marks = q.marks } in
        let d : Drivable roads p.end u q = record { numbered = e.road; free = e.free; same = refl; starts = e.starts } in
        let worse = extends_covers rs f.index p f.number q r e in
        record {
          uses = k.uses ++ u ∷ [];
          stops = k.stops ++ q.end ∷ [];
          drives = subst (Drives roads origin (k.uses ++ u ∷ [])) (sym e.ends) (drives_more roads origin k.uses p.end u q k.drives d);
          values = λ i. ((e.first ∙ ap (λ z. a.join z.0 (a.value q.marks)) k.values ∙ sym (worth_more a k.uses u)) i, (e.second ∙ ap (λ z. b.join z.1 (b.value q.marks)) k.values ∙ sym (worth_more b k.uses u)) i);
          count = omega (arith, length_push k.uses u, k.count, e.longer);
          trail = subst (Trail (front ++ (rs ++ r ∷ [])) (length front + length rs)) (sym (map_push (λ v. v.road) k.uses u))
              (extend r (length front + f.index) f.number (map (λ v. v.road) k.uses) (at_behind front (rs ++ r ∷ []) (length rs) r (at_last rs r)) e.source (known_more rs (r ∷ []) f.index p k).trail);
          visits = visits_more roads origin k.uses p.end k.stops u q k.drives k.visits d;
          distinct = distinct_more k.stops q.end k.distinct (λ i lt eq.
              let h = k.passed i lt in
              f.uncovered (record { index = h.index; row = h.row; stands = h.stands; place = h.ends ∙ eq ∙ sym e.ends; covers = covers_trans la lb (pair_of h.row) (pair_of p) (pair_of r) h.covers worse }));
          passed = λ i lt. ⊎_elim
              (λ low.
              let h = k.passed i low in
              record {
                index = h.index;
                row = h.row;
                stands = at_left rs (r ∷ []) h.index h.row h.stands;
                ends = h.ends ∙ sym (get_or_append_left k.stops (q.end ∷ []) 0 i low);
                covers = covers_trans la lb (pair_of h.row) (pair_of p) (pair_of r) h.covers worse;
              })
              (λ high. record {
                index = length rs;
                row = r;
                stands = at_last rs r;
                ends = e.ends ∙ sym (get_or_push k.stops q.end 0 i (omega (arith, length_push k.stops q.end)));
                covers = covers_same la lb (pair_of r);
              })
              (cases_lt i (length k.stops));
        }

    -- an uncovered extension of the rows with r is one of those without r, or no better than r
    fresh_cases : (q : Row V W) → Fresh a b roads (length front) (rs ++ r ∷ []) q → Fresh a b roads (length front) rs q ⊎ Covers a b (pair_of r) (pair_of q)
    fresh_cases q h =
        let e = h.extends in
        ⊎_elim
        (λ old. inl (record {
          index = h.index;
          row = h.row;
          number = h.number;
          road = h.road;
          extends = record { row = old; road = e.road; free = e.free; starts = e.starts; ends = e.ends; first = e.first; second = e.second; longer = e.longer; source = e.source };
          uncovered = λ c. h.uncovered (covered_more rs (r ∷ []) q c);
        }))
        (λ (_, is). inr (subst (λ z. Covers a b (pair_of z) (pair_of q)) is (extends_covers (rs ++ r ∷ []) h.index h.row h.number h.road q e)))
        (at_push rs r h.index h.row e.row)

    -- what is ahead of r is ahead of every uncovered extension, and so is r
    ahead_new : (q : Row V W) → Fresh a b roads (length front) (rs ++ r ∷ []) q → Ahead a b (pair_of r) (pair_of q)
    ahead_new q h = ⊎_elim (n.best q) (covers_ahead la lb (pair_of r) (pair_of q)) (fresh_cases q h)

    -- the rows with the best uncovered extension behind them
    pub more : Grown a b roads origin front (rs ++ r ∷ [])
    unfolding f
    more = record {
      seed = λ p at. ⊎_elim (g.seed p) (λ (none, _). absurd (omega (arith, g.some))) (at_push rs r 0 p at);
      some = omega (arith, length_push rs r);
      known = λ i p at. ⊎_elim
          (λ old. known_more rs (r ∷ []) i p (g.known i p old))
          (λ (last, is). subst (λ j. Known a b roads origin front (rs ++ r ∷ []) j p) (sym last) (subst (Known a b roads origin front (rs ++ r ∷ []) (length rs)) (sym is) known_new))
          (at_push rs r i p at);
      ordered = λ i j p q lt at_p at_q same. ⊎_elim
          (λ old_q. ⊎_elim
          (λ old_p. g.ordered i j p q lt old_p old_q same)
          (λ (last, _). absurd (omega (arith, old_q.0)))
          (at_push rs r i p at_p))
          (λ (last, is). ⊎_elim
          (λ old_p.
          subst (λ z. Precedes a b (pair_of p) (pair_of z)) (sym is)
          (ahead_precedes la lb (pair_of p) (pair_of r) (g.ahead i p r old_p n.fresh) (λ c. n.fresh.uncovered (record { index = i; row = p; stands = old_p; place = same ∙ ap (λ z. z.end) is; covers = c }))))
          (λ (last', _). absurd (omega arith))
          (at_push rs r i p at_p))
          (at_push rs r j q at_q);
      ahead = λ i p q at_p h. ⊎_elim
          (λ old. ahead_trans la lb (pair_of p) (pair_of r) (pair_of q) (g.ahead i p r old n.fresh) (ahead_new q h))
          (λ (_, is). subst (λ z. Ahead a b (pair_of z) (pair_of q)) (sym is) (ahead_new q h))
          (at_push rs r i p at_p);
    }
