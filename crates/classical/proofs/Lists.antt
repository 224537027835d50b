-- The page of a sweep lists the values of a minimal complete set of efficient paths.
use Rattle.std.proofs.Common.{◌≡◌, ℕ, ◌<◌, ◌⊎◌, List, sym, subst}
use Rattle.criteria.specs.Covers.{Covers}
use Rattle.paths.specs.Objectives.{Objective, value}
use Rattle.paths.specs.Paths.{Path}
use Rattle.paths.specs.Problems.{first_objective, second_objective}
use Rattle.paths.specs.Sets.{Stands, Dominates, Equivalent, Efficient, Minimal}
use Rattle.paths.proofs.Domination.{WeaklyDominates, weakly_trans, weakly_cases, dominates_weakly, dominates_apart, no_worse_same}
use Rattle.paths.proofs.Sets.{minimal_sets_agree_lem}
use Rattle.roads.specs.declared.road.Road.{Road}
use Rattle.trips.specs.Pages.{Page, PairAt}
use Rattle.trips.specs.Plans.{swept, Drives}
use Rattle.trips.specs.Trips.{Use, worths}
use Rattle.trips.proofs.Elements.{at_some}
use Rattle.trips.proofs.Pages.{page_apart}
use Rattle.classical.specs.Lists.{Valued, ValuesOf, SameValues, PagesAreClassical, EverySetHasThePage}
use Rattle.classical.specs.Values.{ValueFor, meaning_for, IsNumber}
use Rattle.classical.proofs.Chosen.{Matching, chosen}
use Rattle.classical.proofs.Numbers.{number, good_no_worse, no_worse_good}
use Rattle.classical.proofs.Trips.{path_of, path_of_uses, uses_on, drives_path, path_drives}

module _ (f g : Objective) (roads : List Road) (s e : ℕ) where
  -- covering is being not worse for both objectives
  covers_weakly : {p q : ValueFor f × ValueFor g} {x y : List ℕ} → Valued f g roads x p → Valued f g roads y q → Covers (meaning_for f) (meaning_for g) p q → WeaklyDominates f g roads s e x y
  covers_weakly {p} {q} {x} {y} h k c = record {
    first = good_no_worse f p.0 q.0 (value f roads x) (value f roads y) h.first k.first c.first;
    second = good_no_worse g p.1 q.1 (value g roads x) (value g roads y) h.second k.second c.second;
  }

  weakly_covers : {p q : ValueFor f × ValueFor g} {x y : List ℕ} → Valued f g roads x p → Valued f g roads y q → WeaklyDominates f g roads s e x y → Covers (meaning_for f) (meaning_for g) p q
  weakly_covers {p} {q} {x} {y} h k c = record {
    first = no_worse_good f p.0 q.0 (value f roads x) (value f roads y) h.first k.first c.first;
    second = no_worse_good g p.1 q.1 (value g roads x) (value g roads y) h.second k.second c.second;
  }

  -- a path from s to e that has the pair's values
  pub record Walked (p : ValueFor f × ValueFor g) (path : List ℕ) : Type 0 where
    pub leads : Path roads s path e
    pub valued : Valued f g roads path p

  module _ (far : s ≡ e → ⊥) (places : ℕ) (pairs : List (ValueFor f × ValueFor g)) (page : Page (meaning_for f) (meaning_for g) (swept places roads s) e pairs) where
    trip_valued : (us : List Use) → Drives roads s us e → Valued f g roads (path_of us) (worths (meaning_for f) (meaning_for g) us)
    trip_valued us goes = record { first = number f roads s us e far goes; second = number g roads s us e far goes }

    walked : (i : ℕ) (p : ValueFor f × ValueFor g) → PairAt (meaning_for f) (meaning_for g) pairs i p → (path : List ℕ) × Walked p path
    walked i p h =
        let (us, (goes, is)) = page.sound i p h in
        (path_of us, record { leads = drives_path roads s us e goes; valued = subst (Valued f g roads (path_of us)) (sym is) (trip_valued us goes) })

    -- the values of a path are covered by a pair of the page
    pub record Covered (path : List ℕ) : Type 0 where
      pub pair : ValueFor f × ValueFor g
      pub by : ValueFor f × ValueFor g
      pub index : ℕ
      pub valued : Valued f g roads path pair
      pub stands : PairAt (meaning_for f) (meaning_for g) pairs index by
      pub covers : Covers (meaning_for f) (meaning_for g) by pair

    covered : (q : List ℕ) → Path roads s q e → Covered q
    covered q leads =
        let goes = path_drives roads s q e leads in
        let us = uses_on roads q in
        let (j, (p, (h, c))) = page.whole us goes in
        record {
          pair = worths (meaning_for f) (meaning_for g) us;
          by = p;
          index = j;
          valued = subst (λ o. Valued f g roads o (worths (meaning_for f) (meaning_for g) us)) (path_of_uses roads q) (trip_valued us goes);
          stands = h;
          covers = c;
        }

    module _ (set : List (List ℕ)) (match : Matching Walked pairs set) where
      pair_there : (i : ℕ) (x : List ℕ) → Stands set i x → (p : ValueFor f × ValueFor g) × (PairAt (meaning_for f) (meaning_for g) pairs i p × Walked p x)
      pair_there i x h =
          let (p, k) = at_some pairs i (subst (λ n. i < n) (sym match.many) h.0) in
          (p, (k, match.each i p x k h))

      path_there : (i : ℕ) (p : ValueFor f × ValueFor g) → PairAt (meaning_for f) (meaning_for g) pairs i p → (x : List ℕ) × (Stands set i x × Walked p x)
      path_there i p h =
          let (x, k) = at_some set i (subst (λ n. i < n) match.many h.0) in
          (x, (k, match.each i p x h k))

      efficient : (i : ℕ) (x : List ℕ) → Stands set i x → Efficient f g roads s e x
      efficient i x h =
          let (p, (k, w)) = pair_there i x h in
          record {
            path = w.leads;
            best = λ q leads worse.
                let c = covered q leads in
                let (y, (_, v)) = path_there c.index c.by c.stands in
                let ahead = covers_weakly v.valued c.valued c.covers in
                let over = weakly_covers v.valued w.valued (weakly_trans f g roads s e y q x ahead (dominates_weakly f g roads s e q x worse)) in
                let same = page_apart (swept places roads s) e pairs page c.index i c.by p c.stands k over in
                dominates_apart f g roads s e q x worse (covers_weakly w.valued c.valued (subst (λ o. Covers (meaning_for f) (meaning_for g) o c.pair) same c.covers));
          }

      outside : (q : List ℕ) → Path roads s q e → ((i : ℕ) → Stands set i q → ⊥) → (i : ℕ) × ((x : List ℕ) × (Stands set i x × (Dominates f g roads s e x q ⊎ Equivalent f g roads s e x q)))
      outside q leads none =
          let c = covered q leads in
          let (y, (h, v)) = path_there c.index c.by c.stands in
          (c.index, (y, (h, weakly_cases f g roads s e y q (covers_weakly v.valued c.valued c.covers))))

      apart : (i j : ℕ) (x y : List ℕ) → i < j → Stands set i x → Stands set j y → Equivalent f g roads s e x y → ⊥
      apart i j x y less h k same =
          let (p, (l, v)) = pair_there i x h in
          let (q, (m, w)) = pair_there j y k in
          (page.ordered i j p q less l m).first.apart (no_worse_good f q.0 p.0 (value f roads y) (value f roads x) w.valued.first v.valued.first (no_worse_same f (value f roads y) (value f roads x) (sym same.first)))

      minimal : Minimal f g roads s e set
      minimal = record { complete = record { efficient = efficient; outside = outside }; apart = apart }

    pub listed : (set : List (List ℕ)) × (Minimal f g roads s e set × ValuesOf f g roads set pairs)
    listed =
        let (set, match) = chosen Walked pairs walked in
        (set, (minimal set match, record { many = match.many; each = λ i x p h k. (match.each i p x k h).valued }))

    equal_values : {x y : List ℕ} {p : ValueFor f × ValueFor g} → Equivalent f g roads s e x y → Valued f g roads x p → Valued f g roads y p
    equal_values {p = p} same v = record {
      first = subst (IsNumber f p.0) same.first v.first;
      second = subst (IsNumber g p.1) same.second v.second;
    }

    pub every : (set : List (List ℕ)) → Minimal f g roads s e set → SameValues f g roads set pairs
    every other minimal_other =
        let (set, (minimal_set, values)) = listed in
        record {
          there = λ i p h.
              let (x, k) = at_some set i (subst (λ n. i < n) values.many h.0) in
              let (j, (y, (l, same))) = minimal_sets_agree_lem f g roads s e set other minimal_set minimal_other i x k in
              (j, (y, (l, equal_values same (values.each i x p k h))));
          back = λ j y l.
              let (i, (x, (k, same))) = minimal_sets_agree_lem f g roads s e other set minimal_other minimal_set j y l in
              let (p, h) = at_some pairs i (subst (λ n. i < n) (sym values.many) k.0) in
              (i, (p, (h, equal_values (record { first = sym same.first; second = sym same.second }) (values.each i x p k h))));
        }

pub pages_are_classical_lem : PagesAreClassical
pages_are_classical_lem problem c d places roads s e pairs far page =
    listed (first_objective problem c) (second_objective problem d) roads s e far places pairs page

pub every_set_has_the_page : EverySetHasThePage
every_set_has_the_page problem c d places roads s e pairs far page =
    every (first_objective problem c) (second_objective problem d) roads s e far places pairs page
