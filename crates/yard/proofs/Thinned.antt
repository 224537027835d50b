-- Computed tests that pairs are what is left of the joins of two lists, and of two lists together.
use Rattle.std.proofs.Common.{◌≡◌, ℕ, Bool, true, ◌&&◌, ◌||◌, List, sym, subst, inl, inr, ⊎_elim, rules}
use Rattle.std.specs.List.{list_all, list_any}
use Rattle.std.proofs.lemmas.Bool.{and_parts, or_cases}
use Rattle.criteria.specs.Meaning.{Meaning}
use Rattle.trips.specs.Elements.{At}
use Rattle.trips.specs.Thinned.{Thinned, OfEither, OfBoth}
use Rattle.trips.specs.Worths.{pair_join}
use Rattle.trips.proofs.Orders.{covers_both}
use Rattle.yard.proofs.Closed.{Covered}
use Rattle.yard.proofs.Judges.{Judge}
use Rattle.yard.proofs.Lists.{sorted, every_at, some_at, sorted_at}
use Rattle.yard.proofs.Tested.{covers, covers_yes, precedes, precedes_yes, covered, covered_yes}

module _ {V W : Type 0} {a : Meaning V} {b : Meaning W} {ta : V → V → Bool} {tb : W → W → Bool} (ja : Judge a ta) (jb : Judge b tb) where
  -- whether two pairs are one
  abbrev same : V × W → V × W → Bool
  same p q = covers ja jb p q && covers ja jb q p

  same_yes : (p q : V × W) → same p q ≡ true → p ≡ q
  same_yes p q t = search (rules, covers_both ja.laws jb.laws, covers_yes ja jb)

  -- whether each pair is a candidate, all candidates are covered, and the pairs stand in order
  abbrev thin : (V × W → Bool) → Bool → List (V × W) → Bool
  thin candidate over zs = (list_all candidate zs && over) && sorted (precedes ja jb) zs

  -- then the candidates are thinned, if the first two tests tell so
  thin_yes : (Candidate : V × W → Type 0) (candidate : V × W → Bool) (over : Bool) (zs : List (V × W)) → ((z : V × W) → candidate z ≡ true → Candidate z) → (over ≡ true → (z : V × W) → Candidate z → Covered a b zs z) → thin candidate over zs ≡ true → Thinned a b Candidate zs
  thin_yes Candidate candidate over zs told all t =
      let (inner, order) = and_parts (list_all candidate zs && over) (sorted (precedes ja jb) zs) t in
      let (each, whole) = and_parts (list_all candidate zs) over inner in
      record {
        sound = λ i z at. told z (every_at candidate zs each i z at);
        whole = all whole;
        ordered = λ i j x y lt h k. precedes_yes ja jb x y (sorted_at (precedes ja jb) zs order i j x y lt h k);
      }

  -- whether x stands in the list
  abbrev stands : List (V × W) → V × W → Bool
  stands xs z = list_any (λ x. same x z) xs

  stands_yes : (xs : List (V × W)) (z : V × W) → stands xs z ≡ true → (i : ℕ) × At xs i z
  stands_yes xs z t = let (i, (x, (at, one))) = some_at (λ x. same x z) xs t in (i, subst (At xs i) (same_yes x z one) at)

  module _ (xs ys zs : List (V × W)) where
    -- whether zs is what is left of the joins of xs with ys
    abbrev pub joins_test : Bool
    joins_test =
        thin
        (λ z. list_any (λ x. list_any (λ y. same (pair_join a b x y) z) ys) xs)
        (list_all (λ x. list_all (λ y. covered ja jb zs (pair_join a b x y)) ys) xs)
        zs

    pub joins_thinned : joins_test ≡ true → Thinned a b (OfBoth a b xs ys) zs
    joins_thinned =
        thin_yes
        (OfBoth a b xs ys)
        (λ z. list_any (λ x. list_any (λ y. same (pair_join a b x y) z) ys) xs)
        (list_all (λ x. list_all (λ y. covered ja jb zs (pair_join a b x y)) ys) xs)
        zs
        (λ z t.
        let (i, (x, (h, inner))) = some_at (λ x. list_any (λ y. same (pair_join a b x y) z) ys) xs t in
        let (j, (y, (k, one))) = some_at (λ y. same (pair_join a b x y) z) ys inner in
        record { i = i; j = j; left = x; right = y; in_left = h; in_right = k; joined = sym (same_yes (pair_join a b x y) z one) })
        (λ t z both.
        let inner = every_at (λ x. list_all (λ y. covered ja jb zs (pair_join a b x y)) ys) xs t both.i both.left both.in_left in
        let over = every_at (λ y. covered ja jb zs (pair_join a b both.left y)) ys inner both.j both.right both.in_right in
        subst (Covered a b zs) (sym both.joined) (covered_yes ja jb zs (pair_join a b both.left both.right) over))

    -- whether zs is what is left of xs and ys together
    abbrev pub both_test : Bool
    both_test = thin (λ z. stands xs z || stands ys z) (list_all (covered ja jb zs) xs && list_all (covered ja jb zs) ys) zs

    pub both_thinned : both_test ≡ true → Thinned a b (OfEither a b xs ys) zs
    both_thinned =
        thin_yes
        (OfEither a b xs ys)
        (λ z. stands xs z || stands ys z)
        (list_all (covered ja jb zs) xs && list_all (covered ja jb zs) ys)
        zs
        (λ z t. ⊎_elim (λ left. inl (stands_yes xs z left)) (λ right. inr (stands_yes ys z right)) (or_cases (stands xs z) (stands ys z) t))
        (λ t z either.
        let (left, right) = and_parts (list_all (covered ja jb zs) xs) (list_all (covered ja jb zs) ys) t in
        ⊎_elim
        (λ (i, at). covered_yes ja jb zs z (every_at (covered ja jb zs) xs left i z at))
        (λ (i, at). covered_yes ja jb zs z (every_at (covered ja jb zs) ys right i z at))
        either)
