-- What is ahead of what, among pairs of values.
use Rattle.std.proofs.Common.{◌≡◌, ◌⊎◌, sym, ◌∙◌, subst, inl, inr, ⊎_elim}
use Rattle.criteria.specs.Covers.{Covers, Precedes}
use Rattle.criteria.specs.Meaning.{Meaning, Strict, Laws}
use Rattle.trips.proofs.Orders.{good_from}
pub use Rattle.trips.proofs.Orders.{covers_same}
use Rattle.growth.specs.Growing.{Ahead}

module _ {V : Type 0} {m : Meaning V} (laws : Laws m) where
  -- strictly better than one value is strictly better than what that is at least as good as
  pub strict_good : (x y z : V) → Strict m.good x y → m.good y z → Strict m.good x z
  strict_good x y z s g = record { better = laws.order.trans x y z s.better g; apart = λ h. s.apart (laws.order.trans y z x g h) }

  -- at least as good is strictly better or the same
  pub good_cases : (x y : V) → m.good x y → Strict m.good x y ⊎ (x ≡ y)
  good_cases x y g = ⊎_elim (λ h. inr (laws.order.same x y g h)) inl (laws.order.total y x)

  -- what is joined behind a value makes it no better
  pub good_join : (x y : V) → m.good x (m.join x y)
  good_join x y = subst (λ z. m.good z (m.join x y)) (laws.joins.right x) (laws.monotone.before m.unit y x (laws.best.unit y))

module _ {V W : Type 0} {a : Meaning V} {b : Meaning W} (la : Laws a) (lb : Laws b) where
  -- whether a pair covers another can be told
  pub covers_decides : (p q : V × W) → Covers a b p q ⊎ (Covers a b p q → ⊥)
  covers_decides p q =
      ⊎_elim
      (λ g. ⊎_elim (λ h. inl (record { first = g; second = h })) (λ s. inr (λ c. s.apart c.second)) (lb.order.total p.1 q.1))
      (λ s. inr (λ c. s.apart c.first))
      (la.order.total p.0 q.0)

  -- a pair is ahead of what it covers
  pub covers_ahead : (p q : V × W) → Covers a b p q → Ahead a b p q
  covers_ahead p q c = ⊎_elim inl (λ e. inr (e, c.second)) (good_cases la p.0 q.0 c.first)

  -- it is at least as good by the first criterion as what it is ahead of
  pub ahead_first : (p q : V × W) → Ahead a b p q → a.good p.0 q.0
  ahead_first p q h = ⊎_elim (λ s. s.better) (λ (e, _). good_from la e) h

  -- what is ahead of one pair is ahead of those behind it
  pub ahead_trans : (p q r : V × W) → Ahead a b p q → Ahead a b q r → Ahead a b p r
  ahead_trans p q r h k =
      ⊎_elim
      (λ s. inl (strict_good la _ _ _ s (ahead_first q r k)))
      (λ (e, g). ⊎_elim (λ t. inl (subst (λ x. Strict a.good x r.0) (sym e) t)) (λ (f, i). inr (e ∙ f, lb.order.trans _ _ _ g i)) k)
      h

  -- a pair that is ahead of one which covers it is the same
  pub ahead_covered : (p q : V × W) → Ahead a b p q → Covers a b q p → Covers a b p q
  ahead_covered p q h c = ⊎_elim (λ s. absurd (s.apart c.first)) (λ (e, g). record { first = good_from la e; second = g }) h

  -- of two pairs in this order, of which the first does not cover the second, the first precedes the second
  pub ahead_precedes : (p q : V × W) → Ahead a b p q → (Covers a b p q → ⊥) → Precedes a b p q
  ahead_precedes p q h apart =
      ⊎_elim
      (λ s. record { first = s; second = ⊎_elim (λ g. absurd (apart (record { first = s.better; second = g }))) (λ t. t) (lb.order.total p.1 q.1) })
      (λ (e, g). absurd (apart (record { first = good_from la e; second = g })))
      h
