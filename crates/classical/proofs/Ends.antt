-- The first pair of a page is best by the first criterion, and the last by the second.
use Rattle.std.proofs.Common.{◌-◌, ◌<◌, length, subst, inl, inr, ⊎_elim, arith}
use Rattle.std.proofs.lemmas.Bool.{cases_order}
use Rattle.criteria.specs.Lexical.{lexical_good}
use Rattle.criteria.specs.Meaning.{Meaning, Strict, Order}
use Rattle.trips.specs.Pages.{PairAt}
use Rattle.trips.specs.Trips.{worth}
use Rattle.trips.proofs.Elements.{at_one}
use Rattle.classical.specs.Ends.{FirstIsBest, LastIsBest}

module _ {V : Type 0} {a : Meaning V} (order : Order a) where
  -- at least as good by both is at least as good by the first, and on a tie by the second
  both_lexical : {W : Type 0} (b : Meaning W) (x y : V) (v w : W) → a.good x y → b.good v w → lexical_good a b (record { first = x; second = v }) (record { first = y; second = w })
  both_lexical b x y v w g h = ⊎_elim (λ back. inr (order.same x y g back, h)) inl (order.total y x)

  strict_good : (x y z : V) → Strict a.good x y → a.good y z → Strict a.good x z
  strict_good x y z ahead g = record {
    better = order.trans x y z ahead.better g;
    apart = λ back. ahead.apart (order.trans y z x g back);
  }

module _ {V W : Type 0} {a : Meaning V} {b : Meaning W} where
  pub first_is_best : Order a → FirstIsBest a b
  first_is_best order plan place pairs p us page here goes =
      let (j, (q, (there, c))) = page.whole us goes in
      ⊎_elim
      (λ e.
      let same = at_one pairs 0 q p (subst (λ n. PairAt a b pairs n q) e there) here in
      both_lexical order b p.0 (worth a us) p.1 (worth b us) (subst (λ (o : V × W). a.good o.0 (worth a us)) same c.first) (subst (λ (o : V × W). b.good o.1 (worth b us)) same c.second))
      (λ ne.
      let less : 0 < j = ⊎_elim (λ lt. absurd (omega arith)) (λ gt. gt) ne in
      inl (strict_good order p.0 q.0 (worth a us) (page.ordered 0 j p q less here there).first c.first))
      (cases_order j 0)

  pub last_is_best : Order b → LastIsBest a b
  last_is_best order plan place pairs p us page here goes =
      let (j, (q, (there, c))) = page.whole us goes in
      ⊎_elim
      (λ e.
      let same = at_one pairs (length pairs - 1) q p (subst (λ n. PairAt a b pairs n q) e there) here in
      both_lexical order a p.1 (worth b us) p.0 (worth a us) (subst (λ (o : V × W). b.good o.1 (worth b us)) same c.second) (subst (λ (o : V × W). a.good o.0 (worth a us)) same c.first))
      (λ ne.
      let less : j < length pairs - 1 = let in_List = there.0 in ⊎_elim (λ lt. lt) (λ gt. absurd (omega arith)) ne in
      inl (strict_good order p.1 q.1 (worth b us) (page.ordered j (length pairs - 1) q p less there here).second c.second))
      (cases_order j (length pairs - 1))
