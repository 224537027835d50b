-- A sweep begins with the one row of the empty trip.
use Rattle.std.proofs.Common.{◌≡◌, ℕ, ◌≤◌, List, [], ◌∷◌, length, get_or, set, replicate, Some, None, Option, sym, refl, ap, ◌∙◌, subst, arith}
use Rattle.std.proofs.lemmas.List.{get_or-replicate, length-replicate}
use Rattle.criteria.specs.Meaning.{Meaning}
use Rattle.roads.specs.declared.road.Road.{Road}
use Rattle.rows.specs.declared.row.Row.{Row}
use Rattle.growth.specs.Complete.{EmptyRow}
use Rattle.growth.proofs.Invariant as invariant
use Rattle.frontiers.specs.Frontiers.{Latest, Linked, Standing, Founded}
use Rattle.frontiers.proofs.Appends.{linked_more, newest_more}
use Rattle.std.proofs.lemmas.Option.{none-some}
use Rattle.frontiers.proofs.Steps.{Forward}

module _ {V W : Type 0} (a : Meaning V) (b : Meaning W) (roads : List Road) (places origin base room : ℕ) (h : Founded a b roads places origin base room) (some : 1 ≤ room) (r : Row V W) (e : EmptyRow a b origin r) where
  -- no row is linked yet
  no_links : (prev : List (Option ℕ)) → Linked {V = V} {W = W} [] (replicate 2048 None) prev
  no_links prev = record {
    latest = λ p lt. subst (λ o. Latest {V = V} {W = W} [] 0 p o) (sym (get_or-replicate 2048 p None None lt)) (λ i x lt' at same. omega arith);
    before = λ i x at. absurd (omega (arith, at.0));
  }

  -- the first row alone is a row of a sweep
  unfoldable first_standing : Standing a b roads base (r ∷ [])
  first_standing = record {
    first_laws = h.first_laws;
    second_laws = h.second_laws;
    places = places;
    origin = origin;
    grown = λ front long. invariant.start a b h.first_laws h.second_laws roads origin front r e.ends e.first e.second e.none e.source;
    tested = λ i p (lt, is).
        let zero_i : i ≡ 0 = omega arith in
        let same : p ≡ r = sym (is r) ∙ ap (λ k. get_or (r ∷ []) k r) zero_i in
        record {
          passing = record {
            first = subst (λ x. a.passes x.roads x.first) (sym same) (subst (λ k. a.passes k r.first) (sym e.none) (subst (a.passes 0) (sym e.first) h.first_laws.tests.none));
            second = subst (λ x. b.passes x.roads x.second) (sym same) (subst (λ k. b.passes k r.second) (sym e.none) (subst (b.passes 0) (sym e.second) h.second_laws.tests.none));
          };
          few = omega (arith, ap (λ x. x.roads) same, e.none);
        };
    named = h.named;
    inside = h.inside;
    small = h.small;
    some = omega arith;
    room = omega (arith, h.fits);
    counted = h.counted;
  }

  -- it is written and linked, and nothing is held
  pub begin_forward : (prev : List (Option ℕ)) → length prev ≡ 65536 → Forward a b roads places origin base (r ∷ []) 0 origin (replicate 2048 None) (set (replicate 2048 None) origin (Some 0)) (set prev 0 (get_or (replicate 2048 None) origin None))
  unfolding first_standing
  begin_forward prev long = record {
    same_places = refl;
    same_origin = refl;
    standing = first_standing;
    linked = linked_more [] r (replicate 2048 None) prev origin e.ends (omega (arith, h.inside, h.small)) (omega (arith, length-replicate {A = Option ℕ} 2048 None, h.inside, h.small)) (omega arith) (no_links prev);
    added = newest_more a b roads base [] r origin e.ends (omega (arith, h.inside, h.small));
    older = λ p low other. record {
      right = λ c at. absurd (none-some _ (sym (get_or-replicate 2048 p None None low) ∙ at));
      first = λ q f s same. absurd (omega arith);
    };
  }
