-- Criteria whose values stand for vectors of numbers, in lexicographic order.
use Rattle.std.proofs.Common.{◌≡◌, ℕ, List, [], ◌∷◌, ◌++◌, sym, refl, ◌∙◌, subst, ap₂, inr, ⊎_elim}
use Rattle.criteria.specs.Lexical.{lexical_good, lexical_meaning}
use Rattle.criteria.specs.Meaning.{Meaning, Strict}
use Rattle.criteria.specs.declared.lexical.LexicalValue.{LexicalValue}
use Rattle.paths.specs.Lexicographic.{LexAtMost, Lexmin, values}
use Rattle.paths.specs.Objectives.{Objective}
use Rattle.paths.proofs.Lexicographic.{LexLess, less_front, less_at_most, same_front, same_front_less, values_both}
use Rattle.roads.specs.declared.road.Road.{Road}
use Rattle.trips.specs.Plans.{Drives}
use Rattle.trips.specs.Trips.{Use, onto, worth}
use Rattle.classical.proofs.Trips.{path_of, path_of_uses, uses_on, drives_path, path_drives}

onto_lexical : {V W : Type 0} (a : Meaning V) (b : Meaning W) (x : V) (y : W) (us : List Use) → onto (lexical_meaning a b) (record { first = x; second = y }) us ≡ record { first = onto a x us; second = onto b y us }
onto_lexical a b x y [] = refl
onto_lexical a b x y (u ∷ us) = onto_lexical a b (a.join x (a.value u.marks)) (b.join y (b.value u.marks)) us

-- a trip is worth by Lexical what it is worth by each part
pub worth_lexical : {V W : Type 0} (a : Meaning V) (b : Meaning W) (us : List Use) → worth (lexical_meaning a b) us ≡ record { first = worth a us; second = worth b us }
unfolding worth
worth_lexical a b us = onto_lexical a b a.unit b.unit us

module _ (roads : List Road) (s e : ℕ) where
  -- the values of the trips from s to e are vectors, those of their paths for the objectives, and better is lexicographically less
  pub record Shown {V : Type 0} (m : Meaning V) (objectives : List Objective) (Is : V → List ℕ → Type 0) : Type 0 where
    pub trips : (us : List Use) → Drives roads s us e → Is (worth m us) (values objectives roads (path_of us))
    pub one : (v : V) (xs ys : List ℕ) → Is v xs → Is v ys → xs ≡ ys
    pub at_most : (v w : V) (xs ys : List ℕ) → Is v xs → Is w ys → m.good v w → LexAtMost xs ys
    pub less : (v w : V) (xs ys : List ℕ) → Is v xs → Is w ys → Strict m.good v w → LexLess xs ys

  -- a trip that is at least as good as every other has the lexicographic minimum
  pub best_is_lexmin : {V : Type 0} {m : Meaning V} {objectives : List Objective} {Is : V → List ℕ → Type 0} → Shown m objectives Is → (v : V) (xs : List ℕ) → Is v xs → (us : List Use) → Drives roads s us e → v ≡ worth m us → ((vs : List Use) → Drives roads s vs e → m.good v (worth m vs)) → Lexmin objectives roads s e xs
  best_is_lexmin {m = m} {objectives = objectives} {Is = Is} shown v xs is us goes worth_v best = record {
    path = path_of us;
    leads = drives_path roads s us e goes;
    is = shown.one v xs (values objectives roads (path_of us)) is (subst (λ o. Is o (values objectives roads (path_of us))) (sym worth_v) (shown.trips us goes));
    least = λ q leads.
        let vs = uses_on roads q in
        let there = path_drives roads s q e leads in
        subst (λ o. LexAtMost xs (values objectives roads o)) (path_of_uses roads q) (shown.at_most v (worth m vs) xs (values objectives roads (path_of vs)) is (shown.trips vs there) (best vs there));
  }

-- one vector and then the other
pub record Both {V W : Type 0} (I : V → List ℕ → Type 0) (J : W → List ℕ → Type 0) (v : LexicalValue V W) (zs : List ℕ) : Type 0 where
  pub xs : List ℕ
  pub ys : List ℕ
  pub first : I v.first xs
  pub second : J v.second ys
  pub are : zs ≡ xs ++ ys

module _ {roads : List Road} {s e : ℕ} {V W : Type 0} {a : Meaning V} {b : Meaning W} {os ps : List Objective} {I : V → List ℕ → Type 0} {J : W → List ℕ → Type 0} (shown_a : Shown roads s e a os I) (shown_b : Shown roads s e b ps J) where
  both_trips : (us : List Use) → Drives roads s us e → Both I J (worth (lexical_meaning a b) us) (values (os ++ ps) roads (path_of us))
  both_trips us goes = record {
    xs = values os roads (path_of us);
    ys = values ps roads (path_of us);
    first = subst (λ (o : LexicalValue V W). I o.first (values os roads (path_of us))) (sym (worth_lexical a b us)) (shown_a.trips us goes);
    second = subst (λ (o : LexicalValue V W). J o.second (values ps roads (path_of us))) (sym (worth_lexical a b us)) (shown_b.trips us goes);
    are = values_both os ps roads (path_of us);
  }

  both_one : (v : LexicalValue V W) (xs ys : List ℕ) → Both I J v xs → Both I J v ys → xs ≡ ys
  both_one v xs ys h k =
      h.are
      ∙ ap₂ ◌++◌ (shown_a.one v.first h.xs k.xs h.first k.first) (shown_b.one v.second h.ys k.ys h.second k.second)
      ∙ sym k.are

  -- the parts' vectors where the first values are the same
  tie : {v w : LexicalValue V W} {xs ys : List ℕ} (h : Both I J v xs) (k : Both I J w ys) → v.first ≡ w.first → h.xs ≡ k.xs
  tie {w = w} h k same = shown_a.one w.first h.xs k.xs (subst (λ o. I o h.xs) same h.first) k.first

  both_at_most : (v w : LexicalValue V W) (xs ys : List ℕ) → Both I J v xs → Both I J w ys → lexical_good a b v w → LexAtMost xs ys
  both_at_most v w xs ys h k good =
      let parts : LexAtMost (h.xs ++ h.ys) (k.xs ++ k.ys) =
      ⊎_elim
      (λ ahead. less_at_most (h.xs ++ h.ys) (k.xs ++ k.ys) (less_front h.xs k.xs h.ys k.ys (shown_a.less v.first w.first h.xs k.xs h.first k.first ahead)))
      (λ (same, g). subst (λ o. LexAtMost (h.xs ++ h.ys) (o ++ k.ys)) (tie h k same) (same_front h.xs h.ys k.ys (shown_b.at_most v.second w.second h.ys k.ys h.second k.second g)))
      good in
      subst (LexAtMost xs) (sym k.are) (subst (λ o. LexAtMost o (k.xs ++ k.ys)) (sym h.are) parts)

  both_less : (v w : LexicalValue V W) (xs ys : List ℕ) → Both I J v xs → Both I J w ys → Strict (lexical_good a b) v w → LexLess xs ys
  both_less v w xs ys h k strict =
      let parts : LexLess (h.xs ++ h.ys) (k.xs ++ k.ys) =
      ⊎_elim
      (λ ahead. less_front h.xs k.xs h.ys k.ys (shown_a.less v.first w.first h.xs k.xs h.first k.first ahead))
      (λ (same, g).
      let ahead : Strict b.good v.second w.second = record { better = g; apart = λ back. strict.apart (inr (sym same, back)) } in
      subst (λ o. LexLess (h.xs ++ h.ys) (o ++ k.ys)) (tie h k same) (same_front_less h.xs h.ys k.ys (shown_b.less v.second w.second h.ys k.ys h.second k.second ahead)))
      strict.better in
      subst (LexLess xs) (sym k.are) (subst (λ o. LexLess o (k.xs ++ k.ys)) (sym h.are) parts)

  -- Lexical of two such criteria is one, for the objectives of the one and then of the other
  pub lexical_shown : Shown roads s e (lexical_meaning a b) (os ++ ps) (Both I J)
  lexical_shown = record { trips = both_trips; one = both_one; at_most = both_at_most; less = both_less }
