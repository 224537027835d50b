-- Orders of values and of pairs of values.
use Rattle.std.proofs.Common.{◌≡◌, subst, ⊎_elim}
use Rattle.criteria.specs.Covers.{Covers, Precedes}
use Rattle.criteria.specs.Meaning.{Meaning, Laws}
use Rattle.trips.specs.Worths.{pair_join}

module _ {V : Type 0} {m : Meaning V} (laws : Laws m) where
  pub good_same : (x : V) → m.good x x
  good_same x = ⊎_elim (λ h. h) (λ h. h.better) (laws.order.total x x)

  pub good_from : {x y : V} → x ≡ y → m.good x y
  good_from {x} e = subst (m.good x) e (good_same x)

  -- joining keeps at least as good, on both sides at once
  pub good_joins : (x y v w : V) → m.good x y → m.good v w → m.good (m.join x v) (m.join y w)
  good_joins x y v w g h = laws.order.trans _ _ _ (laws.monotone.after x y v g) (laws.monotone.before v w y h)

module _ {V W : Type 0} {a : Meaning V} {b : Meaning W} (la : Laws a) (lb : Laws b) where
  pub covers_same : (p : V × W) → Covers a b p p
  covers_same p = record { first = good_same la p.0; second = good_same lb p.1 }

  pub covers_from : {p q : V × W} → p ≡ q → Covers a b p q
  covers_from {p} e = subst (Covers a b p) e (covers_same p)

  pub covers_trans : (p q r : V × W) → Covers a b p q → Covers a b q r → Covers a b p r
  covers_trans p q r c d = record { first = la.order.trans _ _ _ c.first d.first; second = lb.order.trans _ _ _ c.second d.second }

  -- two pairs that cover each other are one
  pub covers_both : (p q : V × W) → Covers a b p q → Covers a b q p → p ≡ q
  covers_both p q c d = (λ i. (la.order.same p.0 q.0 c.first d.first i, lb.order.same p.1 q.1 c.second d.second i))

  -- joining keeps covering, by both criteria and on both sides at once
  pub covers_joins : (p q v w : V × W) → Covers a b p q → Covers a b v w → Covers a b (pair_join a b p v) (pair_join a b q w)
  covers_joins p q v w c d = record {
    first = good_joins la p.0 q.0 v.0 w.0 c.first d.first;
    second = good_joins lb p.1 q.1 v.1 w.1 c.second d.second;
  }

-- of two pairs in the order of a page neither covers the other
module _ {V W : Type 0} {a : Meaning V} {b : Meaning W} {p q : V × W} (s : Precedes a b p q) where
  pub uncovered_after : Covers a b p q → ⊥
  uncovered_after c = s.second.apart c.second

  pub uncovered_before : Covers a b q p → ⊥
  uncovered_before c = s.first.apart c.first
