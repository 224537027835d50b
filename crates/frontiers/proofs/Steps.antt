-- One step of a sweep.
use Rattle.std.proofs.Common.{◌≡◌, ℕ, ◌+◌, ◌<◌, ◌≤◌, List, [], ◌∷◌, ◌++◌, length, get_or, take, set, Some, None, Option, sym, refl, subst, arith}
use Rattle.std.proofs.lemmas.List.{take_more_set, length-take-le}
use Rattle.criteria.specs.Meaning.{Meaning}
use Rattle.roads.specs.declared.road.Road.{Road}
use Rattle.rows.specs.declared.row.Row.{Row}
use Rattle.growth.specs.Growing.{Fresh, Next}
use Rattle.frontiers.specs.Frontiers.{Linked, Older, Newest, Standing, Chosen, Searching, Ready}
use Rattle.frontiers.proofs.Appends.{linked_more, older_from, chosen_next, chosen_none, fresh_inside, standing_more, newest_more}

module _ {V W : Type 0} (a : Meaning V) (b : Meaning W) (roads : List Road) (places origin base : ℕ) where
  -- what a row more, at the place, leaves to be renewed: linked rows of the sweep, the newest at the place; the other places
  -- hold what they held before it was added
  pub record Forward (rs : List (Row V W)) (newest place : ℕ) (best : List (Option (Row V W))) (last prev : List (Option ℕ)) : Type 0 where
    pub standing : Standing a b roads base rs
    pub linked : Linked rs last prev
    pub added : Newest a b rs newest place
    pub older : Older a b roads base rs place newest best
    pub same_places : standing.places ≡ places
    pub same_origin : standing.origin ≡ origin

  -- the same of links that are equal
  pub forward_linked : {rs : List (Row V W)} {newest place : ℕ} {best : List (Option (Row V W))} {last last' prev prev' : List (Option ℕ)} → last' ≡ last → prev' ≡ prev → Forward rs newest place best last prev → Forward rs newest place best last' prev'
  forward_linked {rs} {newest} {place} {best} {last} {last'} {prev} el ep f = subst (λ x. Forward rs newest place best last' x) (sym ep) (subst (λ x. Forward rs newest place best x prev) (sym el) f)

  -- once every place is ready again, the sweep stands with a row more
  pub stands_again : {rs : List (Row V W)} {newest place : ℕ} {best best' : List (Option (Row V W))} {last prev : List (Option ℕ)} → Forward rs newest place best last prev → Ready a b roads base rs best' → Searching a b roads places origin base rs best' last prev
  stands_again f ready = record {
    standing = f.standing;
    same_places = f.same_places;
    same_origin = f.same_origin;
    linked = f.linked;
    ready = ready;
  }

  module _ (table : List (Row V W)) (n : ℕ) (best : List (Option (Row V W))) (last prev : List (Option ℕ)) (s : Searching a b roads places origin base (take n table) best last prev) (within : n ≤ length table) where
    -- there are n rows
    rows_long : length (take n table) ≡ n
    rows_long = length-take-le n table within

    -- extensions end at places of the network
    inside : (z : Row V W) → Fresh a b roads base (take n table) z → z.end < places
    inside z f = subst (λ k. z.end < k) s.same_places (fresh_inside a b roads base (take n table) s.standing z f)

    -- of which there are at most 2,048
    few : places ≤ 2048
    few = subst (λ k. k ≤ 2048) s.same_places s.standing.small

    -- nothing is left
    pub step_none : Chosen a b places best None → (z : Row V W) → Fresh a b roads base (take n table) z → ⊥
    step_none h = chosen_none a b roads base (take n table) best places s.ready few inside h

    module _ (c : Row V W) (chosen : Chosen a b places best (Some c)) where
      -- the chosen row is the next one
      pub step_next : Next a b roads base (take n table) c
      step_next = (chosen_next a b roads base (take n table) c s.standing.first_laws s.standing.second_laws best places s.ready few inside chosen).0

      -- it ends at a place that a network may have
      pub step_low : c.end < 2048
      step_low = (chosen_next a b roads base (take n table) c s.standing.first_laws s.standing.second_laws best places s.ready few inside chosen).1

      -- the chosen row is written and linked
      pub step_forward : n < length table → base + length table ≤ 65536 → length last ≡ 2048 → length prev ≡ 65536 → Forward (take (n + 1) (set table n c)) n c.end best (set last c.end (Some n)) (set prev n (get_or last c.end None))
      unfolding standing_more
      step_forward more room lasts prevs =
          let rs = take n table in
          let (next, low, passing) = chosen_next a b roads base rs c s.standing.first_laws s.standing.second_laws best places s.ready few inside chosen in
          let long = rows_long in
          let pushed : rs ++ c ∷ [] ≡ take (n + 1) (set table n c) = sym (take_more_set table n c more) in
          let here : Forward (rs ++ c ∷ []) n c.end best (set last c.end (Some n)) (set prev n (get_or last c.end None)) = record {
            standing = standing_more a b roads base rs c s.standing (omega arith) next passing;
            linked = subst (λ k. Linked (rs ++ c ∷ []) (set last c.end (Some k)) (set prev k (get_or last c.end None))) long (linked_more rs c last prev c.end refl low (omega (arith, low, lasts)) (omega (arith, prevs)) s.linked);
            added = subst (λ k. Newest a b (rs ++ c ∷ []) k c.end) long (newest_more a b roads base rs c c.end refl low);
            older = subst (λ k. Older a b roads base (rs ++ c ∷ []) c.end k best) long (older_from a b roads base rs c best c.end refl s.ready);
            same_places = s.same_places;
            same_origin = s.same_origin;
          } in
          subst (λ l. Forward l n c.end best (set last c.end (Some n)) (set prev n (get_or last c.end None))) pushed here
