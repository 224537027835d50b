-- All rows at the start of a road are offered, from the last to the first.
use Rattle.std.proofs.Common.{◌≡◌, ℕ, suc, ◌+◌, ◌<◌, ◌≤◌, ◌⊎◌, List, length, get_or, replicate, Some, None, Option, sym, refl, ap, ◌∙◌, subst, inl, inr, ⊎_elim, arith}
use lib.ListN.{length-replicate}
use Rattle.std.proofs.lemmas.Bool.{cases_lt}
use Rattle.criteria.specs.Meaning.{Meaning, Laws}
use Rattle.roads.specs.declared.road.Road.{Road}
use Rattle.rows.specs.declared.row.Row.{Row}
use Rattle.growth.specs.Growing.{Fresh}
use Rattle.trips.specs.Plans.{Numbered}
use Rattle.frontiers.specs.Frontiers.{Latest, Linked, Held, Standing, Tried, Enters, Kept, Follows}
use Rattle.frontiers.proofs.Offers.{held_still, held_here, kept, weighed_length}

-- how many steps are left at most
abbrev pub left_of : Option ℕ → ℕ
left_of None = 0
left_of (Some k) = suc k

-- offered so far: all extensions by the roads before j, and by road j of the rows from m on
abbrev pub Walked : ℕ → ℕ → ℕ → ℕ → Type 0
Walked j m i k = (k < j) ⊎ ((k ≡ j) × (m ≤ i))

module _ {V W : Type 0} (a : Meaning V) (b : Meaning W) (roads : List Road) (base : ℕ) (rs : List (Row V W)) (j place start : ℕ) where
  -- how far the walk has come, from what best₀ was
  pub record Walking (at : Option ℕ) (best₀ best : List (Option (Row V W))) : Type 0 where
    pub top : ℕ
    pub latest : Latest rs top start at
    pub within : top ≤ length rs
    pub holds : Held a b roads base rs best (Walked j top) place
    pub others : Kept a b place best₀ best

-- the same of a row number that is equal
pub walking_same : {V W : Type 0} {a : Meaning V} {b : Meaning W} {roads : List Road} {base : ℕ} {rs : List (Row V W)} {j place start : ℕ} {at at' : Option ℕ} {best₀ best : List (Option (Row V W))} → at ≡ at' → Walking a b roads base rs j place start at best₀ best → Walking a b roads base rs j place start at' best₀ best
walking_same {a = a} {b = b} {roads = roads} {base = base} {rs = rs} {j = j} {place = place} {start = start} {best₀ = best₀} {best = best} e w = subst (λ o. Walking a b roads base rs j place start o best₀ best) e w

module _ {V W : Type 0} (a : Meaning V) (b : Meaning W) (la : Laws a) (lb : Laws b) (roads : List Road) (base : ℕ) (rs : List (Row V W)) (j place : ℕ) (r : Road) (n : Numbered roads j r) (ends : r.end ≡ place) where
  -- the walk begins at the last row
  pub walk_start : (at : Option ℕ) (best : List (Option (Row V W))) → Latest rs (length rs) r.start at → Held a b roads base rs best (λ _ k. k < j) place → Walking a b roads base rs j place r.start at best best
  walk_start at best l h = record {
    top = length rs;
    latest = l;
    within = omega arith;
    holds = held_still a b la lb roads base rs best (λ _ k. k < j) (Walked j (length rs)) place (λ z f s e. ⊎_elim (λ lt. lt) (λ (_, high). absurd (omega (arith, f.extends.row.0))) s) h;
    others = record { row = λ p other. refl; rows = refl };
  }

  -- where no row is left, all rows were offered
  pub walk_end : (best₀ best : List (Option (Row V W))) → Walking a b roads base rs j place r.start None best₀ best → Held a b roads base rs best (λ _ k. k < j + 1) place
  walk_end best₀ best w =
      held_still a b la lb roads base rs best (Walked j w.top) (λ _ k. k < j + 1) place
      (λ z f s e. ⊎_elim (λ lt. inl lt)
      (λ high.
      let same : f.number ≡ j = omega arith in
      let road_is : f.road ≡ r = sym (f.extends.road.1 r) ∙ ap (λ k. get_or roads k r) same ∙ n.1 r in
      inr (
        same,
        ⊎_elim
            (λ low. absurd (w.latest f.index f.row low f.extends.row (sym f.extends.starts ∙ ap (λ x. x.start) road_is)))
            (λ up. up)
            (cases_lt f.index w.top),
      ))
      (cases_lt f.number j))
      w.holds

  -- one row more was offered
  pub walk_step : (i : ℕ) (last prev : List (Option ℕ)) (best₀ best best' : List (Option (Row V W))) → Standing a b roads base rs → Linked rs last prev → place < length best → Walking a b roads base rs j place r.start (Some i) best₀ best → Tried a b roads base rs i j last best best' → Walking a b roads base rs j place r.start (get_or prev i None) best₀ best'
  walk_step i last prev best₀ best best' st links wide w t =
      let e = t.extends in
      let q = t.next in
      let road_is : t.road ≡ r = sym (e.road.1 r) ∙ n.1 r in
      let q_ends : q.end ≡ place = e.ends ∙ ap (λ x. x.end) road_is ∙ ends in
      let row_ends : t.row.end ≡ r.start = sym e.starts ∙ ap (λ x. x.start) road_is in
      let front = replicate base t.row in
      let long : length front ≡ base = length-replicate base t.row in
      let g = st.grown front long in
      let low : q.end < length best = omega arith in
      let latest_q = links.latest q.end t.within in
      let (below_top, _, all_below) = w.latest in
      let more : (z : Row V W) (f : Fresh a b roads base rs z) → Walked j i f.index f.number → z.end ≡ q.end → Walked j w.top f.index f.number ⊎ ((f.index ≡ i) × (f.number ≡ j)) = λ z f s ez. ⊎_elim
      (λ lt. inl (inl lt))
      (λ (same, up). ⊎_elim
      (λ below.
      let fr : f.road ≡ r = sym (f.extends.road.1 r) ∙ ap (λ k. get_or roads k r) same ∙ n.1 r in
      let at_most = all_below f.index f.row below f.extends.row (sym f.extends.starts ∙ ap (λ x. x.start) fr) in
      inr (omega arith, same))
      (λ high. inl (inr (same, high)))
      (cases_lt f.index w.top))
      s in
      let here = held_here a b la lb roads base rs st.origin front long g i j t.row t.road q e best best' (get_or last q.end None) latest_q low t.weighed t.passing (Walked j w.top) (Walked j i) more (subst (Held a b roads base rs best (Walked j w.top)) (sym q_ends) w.holds) in
      let keeps : (p : ℕ) → (p ≡ place → ⊥) → get_or best' p None ≡ get_or best p None = λ p other. kept a b la lb roads base rs st.origin front long g i j t.row t.road q e best best' (get_or last q.end None) latest_q low t.weighed t.passing p (λ is. other (is ∙ q_ends)) in
      record {
        top = i;
        latest = subst (λ x. Latest rs i x (get_or prev i None)) row_ends (links.before i t.row e.row);
        within = omega (arith, w.within);
        holds = subst (Held a b roads base rs best' (Walked j i)) q_ends here;
        others = record {
          row = λ p other. keeps p other ∙ w.others.row p other;
          rows = weighed_length a b rs q (get_or last q.end None) best best' t.weighed ∙ w.others.rows;
        };
      }

  -- road j may be driven behind each row that the walk comes to
  pub walk_follows : (i : ℕ) (best₀ best : List (Option (Row V W))) → Enters a b roads j place → Walking a b roads base rs j place r.start (Some i) best₀ best → Follows a b roads rs i j
  walk_follows i best₀ best (within, is) w =
      let (low, EndsThere, _) = w.latest in
      record {
        row = omega (arith, w.within);
        road = within;
        meets = λ p q at nq. (
          (is q nq).0,
          ap (λ x. x.start) (sym (nq.1 r) ∙ n.1 r) ∙ sym (EndsThere p at),
        );
      }

-- the walk goes down
pub left_falls : {V W : Type 0} (rs : List (Row V W)) (i start : ℕ) (o : Option ℕ) → Latest rs i start o → left_of o < suc i
left_falls rs i start None l = omega arith
left_falls rs i start (Some k) (low, _, _) = omega arith

-- a road of the network starts and ends at places of the network
pub road_low : {V W : Type 0} (a : Meaning V) (b : Meaning W) (roads : List Road) (base : ℕ) (rs : List (Row V W)) (j : ℕ) (r : Road) → Standing a b roads base rs → Numbered roads j r → (r.start < 2048) × (r.end < 2048)
road_low a b roads base rs j r s n = (omega (arith, (s.named j r n).starts, s.small), omega (arith, (s.named j r n).ends, s.small))
