-- What a row more does to the links and to what is held.
use Rattle.std.proofs.Common.{◌≡◌, ℕ, ◌+◌, ◌<◌, ◌≤◌, List, [], ◌∷◌, ◌++◌, length, get_or, set, replicate, Some, None, Option, sym, refl, ap, ◌∙◌, subst, ⊎_elim, arith, get_or-set_other, get_or-set_same}
use lib.ListN.{length-replicate}
use Rattle.std.proofs.lemmas.List.{length_push}
use Rattle.std.proofs.lemmas.Bool.{cases_eq}
use Rattle.criteria.specs.Meaning.{Meaning, Laws}
use Rattle.roads.specs.declared.road.Road.{Road}
use Rattle.rows.specs.declared.row.Row.{Row}
use Rattle.rows.specs.Places.{pair_of}
use Rattle.growth.specs.Growing.{Extends, Fresh, Next}
use Rattle.growth.specs.Grown.{Grown}
use Rattle.growth.proofs.Invariant as invariant
use Rattle.growth.proofs.Orders.{ahead_trans}
use Rattle.growth.proofs.Tables.{at_left, at_push}
use Rattle.growth.proofs.Bounds.{few_roads}
use Rattle.std.proofs.lemmas.Option.{none-some}
use Rattle.frontiers.specs.Frontiers.{Latest, Linked, Ready, Older, Newest, Standing, Passing, Chosen}

module _ {V W : Type 0} (rs : List (Row V W)) (c : Row V W) where
  -- among the first rows nothing changes
  latest_same : (n place : ℕ) (o : Option ℕ) → n ≤ length rs → Latest rs n place o → Latest (rs ++ c ∷ []) n place o
  latest_same n place None low h = λ i r lt at e. ⊎_elim (λ old. h i r lt old e) (λ (last, _). omega arith) (at_push rs c i r at)
  latest_same n place (Some k) low (below, ends, top) = (
    below,
    λ r at. ⊎_elim (λ old. ends r old) (λ (last, _). absurd (omega arith)) (at_push rs c k r at),
    λ i r lt at e. ⊎_elim (λ old. top i r lt old e) (λ (last, _). absurd (omega arith)) (at_push rs c i r at),
  )

  -- at another place the last row stays the last
  latest_apart : (place : ℕ) (o : Option ℕ) → (c.end ≡ place → ⊥) → Latest rs (length rs) place o → Latest (rs ++ c ∷ []) (length rs + 1) place o
  latest_apart place None other h = λ i r lt at e. ⊎_elim (λ old. h i r old.0 old e) (λ (_, is). other (ap (λ x. x.end) (sym is) ∙ e)) (at_push rs c i r at)
  latest_apart place (Some k) other (below, ends, top) = (
    omega arith,
    λ r at. ⊎_elim (λ old. ends r old) (λ (last, _). absurd (omega arith)) (at_push rs c k r at),
    λ i r lt at e. ⊎_elim (λ old. top i r old.0 old e) (λ (_, is). absurd (other (ap (λ x. x.end) (sym is) ∙ e))) (at_push rs c i r at),
  )

  -- the row is the last at its place
  pub linked_more : (last prev : List (Option ℕ)) (place : ℕ) → c.end ≡ place → place < 2048 → place < length last → length rs < length prev → Linked rs last prev → Linked (rs ++ c ∷ []) (set last place (Some (length rs))) (set prev (length rs) (get_or last place None))
  linked_more last prev place ends low wide room h =
      let long = length_push rs c in
      record {
        latest = λ p lt. ⊎_elim
            (λ is.
            let here : get_or (set last place (Some (length rs))) p None ≡ Some (length rs) = ap (λ k. get_or (set last place (Some (length rs))) k None) is ∙ get_or-set_same last place (Some (length rs)) None wide in
            subst (λ o. Latest (rs ++ c ∷ []) (length (rs ++ c ∷ [])) p o) (sym here) (
              omega arith,
              λ r at. ⊎_elim (λ (lt', _). absurd (omega arith)) (λ (_, same). ap (λ x. x.end) same ∙ ends ∙ sym is) (at_push rs c (length rs) r at),
              λ i r below at e. omega arith,
            ))
            (λ other.
            subst (λ o. Latest (rs ++ c ∷ []) (length (rs ++ c ∷ [])) p o) (sym (get_or-set_other last place p (Some (length rs)) None other))
            (subst (λ n. Latest (rs ++ c ∷ []) n p (get_or last p None)) (sym long) (latest_apart p (get_or last p None) (λ e. other (sym e ∙ ends)) (h.latest p lt))))
            (cases_eq p place);
        before = λ i r at. ⊎_elim
            (λ old.
            let apart : i ≡ length rs → ⊥ = λ e. omega (arith, old.0) in
            subst (λ o. Latest (rs ++ c ∷ []) i r.end o) (sym (get_or-set_other prev (length rs) i (get_or last place None) None apart)) (latest_same i r.end (get_or prev i None) (omega (arith, old.0)) (h.before i r old)))
            (λ (is, same).
            let here : get_or (set prev (length rs) (get_or last place None)) i None ≡ get_or last place None = ap (λ k. get_or (set prev (length rs) (get_or last place None)) k None) is ∙ get_or-set_same prev (length rs) (get_or last place None) None room in
            subst (λ o. Latest (rs ++ c ∷ []) i r.end o) (sym here) (subst (λ n. Latest (rs ++ c ∷ []) n r.end (get_or last place None)) (sym is) (latest_same (length rs) r.end (get_or last place None) (omega arith) (subst (λ q. Latest rs (length rs) q (get_or last place None)) (sym (ap (λ x. x.end) same ∙ ends)) (h.latest place low)))))
            (at_push rs c i r at);
      }

module _ {V W : Type 0} (a : Meaning V) (b : Meaning W) (roads : List Road) (base : ℕ) (rs : List (Row V W)) (c : Row V W) where
  -- an extension of one of the rows stays one
  extends_more : (i : ℕ) (p : Row V W) (j : ℕ) (q : Road) (r : Row V W) → Extends a b roads base rs i p j q r → Extends a b roads base (rs ++ c ∷ []) i p j q r
  extends_more i p j q r e = record { row = at_left rs (c ∷ []) i p e.row; road = e.road; free = e.free; starts = e.starts; ends = e.ends; first = e.first; second = e.second; longer = e.longer; source = e.source }

  -- an uncovered extension into another place stays uncovered
  fresh_more : (z : Row V W) → (c.end ≡ z.end → ⊥) → Fresh a b roads base rs z → Fresh a b roads base (rs ++ c ∷ []) z
  fresh_more z other f = record {
    index = f.index;
    row = f.row;
    number = f.number;
    road = f.road;
    extends = extends_more f.index f.row f.number f.road z f.extends;
    uncovered = λ v. ⊎_elim
        (λ old. f.uncovered (record { index = v.index; row = v.row; stands = old; place = v.place; covers = v.covers }))
        (λ (_, is). other (ap (λ x. x.end) (sym is) ∙ v.place))
        (at_push rs c v.index v.row v.stands);
  }

  -- an uncovered extension of an older row was one before
  fresh_less : (z : Row V W) (f : Fresh a b roads base (rs ++ c ∷ []) z) → f.index < length rs → Fresh a b roads base rs z
  fresh_less z f low =
      let e = f.extends in
      record {
        index = f.index;
        row = f.row;
        number = f.number;
        road = f.road;
        extends = record { row = ⊎_elim (λ old. old) (λ (last, _). absurd (omega arith)) (at_push rs c f.index f.row e.row); road = e.road; free = e.free; starts = e.starts; ends = e.ends; first = e.first; second = e.second; longer = e.longer; source = e.source };
        uncovered = λ v. f.uncovered (record { index = v.index; row = v.row; stands = at_left rs (c ∷ []) v.index v.row v.stands; place = v.place; covers = v.covers });
      }

  -- what other places hold is still the best of the older rows' extensions
  pub older_from : (best : List (Option (Row V W))) (place : ℕ) → c.end ≡ place → Ready a b roads base rs best → Older a b roads base (rs ++ c ∷ []) place (length rs) best
  older_from best place ends h p low other =
      let k = h p low in
      record {
        right = λ z at. let (f, e, passing) = k.right z at in (fresh_more z (λ same. other (sym e ∙ sym same ∙ ends)) f, e, passing);
        first = λ z f s e. k.first z (fresh_less z f s) tt e;
      }

  -- the row that was chosen is the best uncovered extension of all
  pub chosen_next : (la : Laws a) (lb : Laws b) (best : List (Option (Row V W))) (places : ℕ) → Ready a b roads base rs best → places ≤ 2048 → ((z : Row V W) → Fresh a b roads base rs z → z.end < places) → Chosen a b places best (Some c) → Next a b roads base rs c × (c.end < 2048) × Passing a b c
  chosen_next la lb best places h small inside ((place, low, at), on) =
      let (f, e, passing) = (h place (omega arith)).right c at in (
        record {
          fresh = f;
          best = λ q fq.
              let within = inside q fq in
              let (d, held, ahead) = (h q.end (omega arith)).first q fq tt refl in
              ahead_trans la lb (pair_of c) (pair_of d) (pair_of q) (on q.end d within held) ahead;
        },
        omega (arith, e),
        passing,
      )

-- where no place holds anything, nothing is left
pub chosen_none : {V W : Type 0} (a : Meaning V) (b : Meaning W) (roads : List Road) (base : ℕ) (rs : List (Row V W)) (best : List (Option (Row V W))) (places : ℕ) → Ready a b roads base rs best → places ≤ 2048 → ((z : Row V W) → Fresh a b roads base rs z → z.end < places) → Chosen a b places best None → (z : Row V W) → Fresh a b roads base rs z → ⊥
chosen_none a b roads base rs best places h small inside none z f =
    let within = inside z f in
    let (_, held, _) = (h z.end (omega arith)).first z f tt refl in
    none-some _ (sym (none z.end within) ∙ held)

module _ {V W : Type 0} (a : Meaning V) (b : Meaning W) (roads : List Road) (base : ℕ) where
  -- extensions end at places of the network
  pub fresh_inside : (rs : List (Row V W)) (st : Standing a b roads base rs) (z : Row V W) → Fresh a b roads base rs z → z.end < st.places
  fresh_inside rs st z f = omega (arith, (st.named f.number f.road f.extends.road).ends, f.extends.ends)

  -- the rows with the next one are such rows too
  unfoldable pub standing_more : (rs : List (Row V W)) (c : Row V W) → Standing a b roads base rs → base + (length rs + 1) ≤ 65536 → Next a b roads base rs c → Passing a b c → Standing a b roads base (rs ++ c ∷ [])
  standing_more rs c st room next passing =
      let grown : (front : List (Row V W)) → length front ≡ base → Grown a b roads st.origin front (rs ++ c ∷ []) = λ front long. invariant.more a b st.first_laws st.second_laws roads st.origin front rs (st.grown front long) c (subst (λ n. Next a b roads n rs c) (sym long) next) in
      record {
        first_laws = st.first_laws;
        second_laws = st.second_laws;
        places = st.places;
        origin = st.origin;
        grown = grown;
        tested = λ i p at. ⊎_elim
            (λ old. st.tested i p old)
            (λ (_, is).
            let front = replicate base c in
            record {
              passing = subst (Passing a b) (sym is) passing;
              few = omega (arith, few_roads a b st.first_laws st.second_laws roads st.origin front (rs ++ c ∷ []) (grown front (length-replicate base c)) st.places st.named st.inside i p at, st.small);
            })
            (at_push rs c i p at);
        named = st.named;
        inside = st.inside;
        small = st.small;
        some = omega (arith, length_push rs c);
        room = omega (arith, length_push rs c);
        counted = st.counted;
      }

  -- the row is the newest
  pub newest_more : (rs : List (Row V W)) (c : Row V W) (place : ℕ) → c.end ≡ place → place < 2048 → Newest a b (rs ++ c ∷ []) (length rs) place
  newest_more rs c place ends low = record {
    last = sym (length_push rs c);
    ends = λ p at. ⊎_elim (λ (lt, _). absurd (omega arith)) (λ (_, is). ap (λ x. x.end) is ∙ ends) (at_push rs c (length rs) p at);
    low = low;
  }
