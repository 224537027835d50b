-- The last row at a place.
use Rattle.std.proofs.Common.{◌≡◌, ℕ, ◌<◌, ◌≤◌, Bool, true, false, List, length, Some, None, MatchBool, Option, sym, ◌∙◌, subst, ⊎_elim, arith}
use Rattle.std.proofs.lemmas.Bool.{cases_order}
use Rattle.criteria.specs.Meaning.{Meaning, Strict, Laws}
use Rattle.roads.specs.declared.road.Road.{Road}
use Rattle.rows.specs.declared.row.Row.{Row}
use Rattle.rows.specs.Places.{RowAt, pair_of}
use Rattle.rows.proofs.Filter.{row_exists}
use Rattle.growth.specs.Growing.{Covered, Extension, Fresh}
use Rattle.growth.specs.Grown.{Grown}
use Rattle.growth.proofs.Orders.{ahead_first}
use Rattle.growth.proofs.Tables.{at_one}
use Rattle.growth.proofs.Wholeness.{decide_covered}
use Rattle.frontiers.specs.Frontiers.{Latest, Shown}

-- a test is not both true and false
pub apart : {A : Type 0} {b : Bool} → b ≡ true → b ≡ false → A
apart t f = let z : ◌≡◌ {A = ℕ} 0 1 = cc in absurd (omega arith)

-- the last row at its place tells whether an extension is covered
module _ {V W : Type 0} (a : Meaning V) (b : Meaning W) (la : Laws a) (lb : Laws b) (roads : List Road) (origin : ℕ) (front rs : List (Row V W)) (g : Grown a b roads origin front rs) (q : Row V W) (e : Extension a b roads (length front) rs q) where
  -- where the last row is at least as good by the second criterion, one of the rows covers the extension
  shadow_covers : (k : ℕ) (p : Row V W) → RowAt rs k p → p.end ≡ q.end → b.good p.second q.second → Covered a b rs q
  shadow_covers k p at ends good =
      ⊎_elim (λ c. c)
      (λ none.
      let fresh : Fresh a b roads (length front) rs q = record { index = e.index; row = e.row; number = e.number; road = e.road; extends = e.extends; uncovered = none } in
      record { index = k; row = p; stands = at; place = ends; covers = record { first = ahead_first la lb (pair_of p) (pair_of q) (g.ahead k p q at fresh); second = good } })
      (decide_covered a b la lb rs q)

  -- where it is strictly worse, none of the rows does
  light_bares : (k : ℕ) (p : Row V W) → RowAt rs k p → p.end ≡ q.end → ((i : ℕ) (r : Row V W) → i < length rs → RowAt rs i r → r.end ≡ q.end → i ≤ k) → Strict b.good q.second p.second → Covered a b rs q → ⊥
  light_bares k p at ends top strict c =
      ⊎_elim
      (λ same. strict.apart (subst (λ z. b.good z.second q.second) (at_one rs k c.row p (subst (λ i. RowAt rs i c.row) same c.stands) at) c.covers.second))
      (λ w. ⊎_elim
      (λ lt. strict.apart (lb.order.trans p.second c.row.second q.second (g.ordered c.index k c.row p lt c.stands at (c.place ∙ sym ends)).second.better c.covers.second))
      (λ gt. omega (arith, top c.index c.row c.stands.0 c.stands c.place))
      w)
      (cases_order c.index k)

  -- so what is shown decides
  pub shown_covered : (o : Option ℕ) (r : Bool) → Latest rs (length rs) q.end o → Shown b rs q o r → (r ≡ true → Covered a b rs q) × (r ≡ false → Covered a b rs q → ⊥)
  shown_covered None r l s = (λ t. apart t s, λ _ c. l c.index c.row c.stands.0 c.stands c.place)
  shown_covered (Some k) r (low, ends, top) s =
      let (p, at) = row_exists rs k low in (
        λ t. shadow_covers k p at (ends p at) (subst (λ z. MatchBool z (b.good p.second q.second) (Strict b.good q.second p.second)) t (s p at)),
        λ f. light_bares k p at (ends p at) top (subst (λ z. MatchBool z (b.good p.second q.second) (Strict b.good q.second p.second)) f (s p at)),
      )
