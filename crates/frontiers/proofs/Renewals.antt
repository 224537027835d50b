-- One road more is seen again.
use Rattle.std.proofs.Common.{◌≡◌, ℕ, ◌+◌, ◌<◌, true, false, ◌⊎◌, List, length, get_or, set, replicate, None, Option, sym, refl, ap, ◌∙◌, subst, inl, inr, ⊎_elim, arith, get_or-set_other, get_or-set_same}
use lib.ListN.{length-replicate}
use Rattle.std.proofs.lemmas.Bool.{cases_lt, cases_eq}
use Rattle.criteria.specs.Meaning.{Meaning, Laws}
use Rattle.roads.specs.declared.road.Road.{Road}
use Rattle.rows.specs.declared.row.Row.{Row}
use Rattle.rows.specs.Places.{RowAt}
use Rattle.growth.specs.Growing.{Fresh}
use Rattle.trips.specs.Plans.{Numbered}
use Rattle.frontiers.specs.Frontiers.{Linked, Held, Standing, Tried, Enters, Follows, Kept, Renewed, Newest, Older, Ready}
use Rattle.std.proofs.lemmas.Option.{none-some}
use Rattle.frontiers.proofs.Offers.{held_still, held_apart, held_here, kept}

module _ {V W : Type 0} (a : Meaning V) (b : Meaning W) (la : Laws a) (lb : Laws b) (roads : List Road) (base : ℕ) (rs : List (Row V W)) (j place newest : ℕ) (r : Road) (n : Numbered roads j r) (new : Newest a b rs newest place) where
  -- the road of an extension by road j
  road_is : (z : Row V W) (f : Fresh a b roads base rs z) → f.number ≡ j → f.road ≡ r
  road_is z f same = sym (f.extends.road.1 r) ∙ ap (λ k. get_or roads k r) same ∙ n.1 r

  -- what is seen with one road more is seen already, or is an extension by that road
  Seen : ℕ → ℕ → ℕ → ℕ → Type 0
  Seen p l i k = (k < l) ⊎ ((p ≡ place → ⊥) × (i < newest))

  -- with one road more, that road is all that is new
  one_more : (p i k : ℕ) → Seen p (j + 1) i k → Seen p j i k ⊎ (k ≡ j)
  unfolding Seen
  one_more p i k s = ⊎_elim (λ lt. ⊎_elim (λ low. inl (inl low)) (λ high. inr (omega arith)) (cases_lt k j)) (λ old. inl (inr old)) s

  module _ (best : List (Option (Row V W))) (h : Renewed a b roads base rs place newest best j) where
    -- nothing is offered: no extension by the road needs to be
    pub renewed_still : ((p : ℕ) (z : Row V W) (f : Fresh a b roads base rs z) → f.number ≡ j → z.end ≡ p → (p ≡ place → ⊥) × (f.index < newest)) → Renewed a b roads base rs place newest best (j + 1)
    unfolding Seen
    renewed_still none p low =
        held_still a b la lb roads base rs best (Seen p j) (Seen p (j + 1)) p
        (λ z f s e. ⊎_elim (λ old. old) (λ same. inr (none p z f same e)) (one_more p f.index f.number s))
        (h p low)

    -- the road is shut
    pub renewed_shut : r.«open» ≡ false → Renewed a b roads base rs place newest best (j + 1)
    renewed_shut shut = renewed_still (λ p z f same e. let free = f.extends.free in let is = ap (λ x. x.«open») (road_is z f same) in let z' : ◌≡◌ {A = ℕ} 0 1 = cc in absurd (omega arith))

    -- the road neither starts nor ends at the place
    pub renewed_apart : (r.end ≡ place → ⊥) → (r.start ≡ place → ⊥) → Renewed a b roads base rs place newest best (j + 1)
    renewed_apart ends starts = renewed_still (λ p z f same e.
        let is = road_is z f same in (
          λ here. ends (ap (λ x. x.end) (sym is) ∙ sym f.extends.ends ∙ e ∙ here),
          ⊎_elim (λ low. low)
              (λ high.
              let last : f.index ≡ newest = omega (arith, new.last, f.extends.row.0) in
              absurd (starts (ap (λ x. x.start) (sym is) ∙ f.extends.starts ∙ new.ends f.row (subst (λ k. RowAt rs k f.row) last f.extends.row))))
              (cases_lt f.index newest),
        ))

    -- what the place holds before its road is seen
    pub held_before : Held a b roads base rs best (λ _ k. k < j) place
    unfolding Seen
    held_before = held_still a b la lb roads base rs best (Seen place j) (λ _ k. k < j) place (λ z f s e. inl s) (h place new.low)

    module _ (best' : List (Option (Row V W))) where
      -- every row was offered with a road that ends at the place
      pub renewed_entered : r.end ≡ place → Kept a b place best best' → Held a b roads base rs best' (λ _ k. k < j + 1) place → Renewed a b roads base rs place newest best' (j + 1)
      unfolding Seen
      renewed_entered ends keep here p low =
          ⊎_elim
          (λ is. subst (λ x. Held a b roads base rs best' (Seen x (j + 1)) x) (sym is)
          (held_still a b la lb roads base rs best' (λ _ k. k < j + 1) (Seen place (j + 1)) place (λ z f s e. ⊎_elim (λ lt. lt) (λ (other, _). absurd (other refl)) s) here))
          (λ other.
          held_still a b la lb roads base rs best' (Seen p j) (Seen p (j + 1)) p
          (λ z f s e. ⊎_elim (λ old. old) (λ same. absurd (other (sym e ∙ f.extends.ends ∙ ap (λ x. x.end) (road_is z f same) ∙ ends))) (one_more p f.index f.number s))
          (held_apart a b la lb roads base rs best best' (Seen p j) p (keep.row p other) (h p low)))
          (cases_eq p place)

      -- the newest row was offered with a road that starts at its place
      pub renewed_left : Standing a b roads base rs → (last prev : List (Option ℕ)) → Linked rs last prev → length best ≡ 2048 → r.start ≡ place → (r.end ≡ place → ⊥) → Tried a b roads base rs newest j last best best' → Renewed a b roads base rs place newest best' (j + 1)
      unfolding Seen
      renewed_left st last prev links sized starts away t p low =
          let e = t.extends in
          let q = t.next in
          let is : t.road ≡ r = sym (e.road.1 r) ∙ n.1 r in
          let q_ends : q.end ≡ r.end = e.ends ∙ ap (λ x. x.end) is in
          let front = replicate base t.row in
          let long : length front ≡ base = length-replicate base t.row in
          let wide : q.end < length best = omega (arith, t.within, sized) in
          ⊎_elim
          (λ same. subst (λ x. Held a b roads base rs best' (Seen x (j + 1)) x) (sym same)
          (held_here a b la lb roads base rs st.origin front long (st.grown front long) newest j t.row t.road q e best best' (get_or last q.end None) (links.latest q.end t.within) wide t.weighed t.passing (Seen q.end j) (Seen q.end (j + 1))
          (λ z f s ez. ⊎_elim (λ old. inl old)
          (λ by_j. ⊎_elim
          (λ older. inl (inr (λ here. away (sym q_ends ∙ here), older)))
          (λ high. inr (omega (arith, new.last, f.extends.row.0), by_j))
          (cases_lt f.index newest))
          (one_more q.end f.index f.number s))
          (h q.end t.within)))
          (λ other.
          let same = kept a b la lb roads base rs st.origin front long (st.grown front long) newest j t.row t.road q e best best' (get_or last q.end None) (links.latest q.end t.within) wide t.weighed t.passing p other in
          held_still a b la lb roads base rs best' (Seen p j) (Seen p (j + 1)) p
          (λ z f s ez. ⊎_elim (λ old. old) (λ same. absurd (other (sym ez ∙ f.extends.ends ∙ ap (λ x. x.end) (road_is z f same) ∙ sym q_ends))) (one_more p f.index f.number s))
          (held_apart a b la lb roads base rs best best' (Seen p j) p same (h p low)))
          (cases_eq p q.end)

-- the road may be driven behind the newest row
pub newest_follows : {V W : Type 0} (a : Meaning V) (b : Meaning W) (roads : List Road) (rs : List (Row V W)) (j place newest : ℕ) (r : Road) → Numbered roads j r → Newest a b rs newest place → r.«open» ≡ true → r.start ≡ place → Follows a b roads rs newest j
newest_follows a b roads rs j place newest r n new free starts = record {
  row = omega (arith, new.last);
  road = n.0;
  meets = λ p q at nq. let is = sym (nq.1 r) ∙ n.1 r in (ap (λ x. x.«open») is ∙ free, ap (λ x. x.start) is ∙ starts ∙ sym (new.ends p at));
}

-- an open road that ends at the place
pub enters_by : {V W : Type 0} (a : Meaning V) (b : Meaning W) (roads : List Road) (j place : ℕ) (r : Road) → Numbered roads j r → r.«open» ≡ true → r.end ≡ place → Enters a b roads j place
enters_by a b roads j place r n free ends = (n.0, λ q nq. let is = sym (nq.1 r) ∙ n.1 r in (ap (λ x. x.«open») is ∙ free, ap (λ x. x.end) is ∙ ends))

module _ {V W : Type 0} (a : Meaning V) (b : Meaning W) (la : Laws a) (lb : Laws b) (roads : List Road) (base : ℕ) (rs : List (Row V W)) (place newest : ℕ) (new : Newest a b rs newest place) where
  -- before any road is seen again, the place holds nothing
  pub renewed_none : (best : List (Option (Row V W))) → length best ≡ 2048 → Older a b roads base rs place newest best → Renewed a b roads base rs place newest (set best place None) 0
  renewed_none best sized older p low =
      ⊎_elim
      (λ is.
      let empty : get_or (set best place None) p None ≡ None = ap (λ x. get_or (set best place None) x None) is ∙ get_or-set_same best place None None (omega (arith, sized, new.low)) in
      record {
        right = λ c at. absurd (none-some _ (sym empty ∙ at));
        first = λ z f s e. absurd (⊎_elim (λ lt. omega arith) (λ (other, _). other is) s);
      })
      (λ other.
      held_apart a b la lb roads base rs best (set best place None) (λ i k. (k < 0) ⊎ ((p ≡ place → ⊥) × (i < newest))) p (get_or-set_other best place p None None other)
      (held_still a b la lb roads base rs best (λ i _. i < newest) (λ i k. (k < 0) ⊎ ((p ≡ place → ⊥) × (i < newest))) p (λ z f s e. ⊎_elim (λ lt. absurd (omega arith)) (λ (_, lt). lt) s) (older p low other)))
      (cases_eq p place)

  -- once all roads are seen again, every place is ready
  pub renewed_all : (best : List (Option (Row V W))) → Renewed a b roads base rs place newest best (length roads) → Ready a b roads base rs best
  renewed_all best h p low = held_still a b la lb roads base rs best (λ i k. (k < length roads) ⊎ ((p ≡ place → ⊥) × (i < newest))) (λ _ _. Unit {0}) p (λ z f s e. inl f.extends.road.0) (h p low)
