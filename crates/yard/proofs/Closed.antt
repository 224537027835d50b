-- Pages that are closed under one road more cover every trip.
use Rattle.std.proofs.Common.{◌≡◌, ℕ, true, List, [], ◌∷◌, sym, subst}
use Rattle.criteria.specs.Covers.{Covers}
use Rattle.criteria.specs.Meaning.{Meaning, Laws}
use Rattle.roads.specs.declared.road.Road.{Road}
use Rattle.trips.specs.Pages.{PairAt}
use Rattle.trips.specs.Plans.{Numbered, Drives}
use Rattle.trips.specs.Trips.{Use, onto, worth, worths}
use Rattle.trips.specs.Worths.{pair_join}
use Rattle.trips.proofs.Orders.{covers_same, covers_trans, covers_joins}

module _ {V W : Type 0} (a : Meaning V) (b : Meaning W) where
  -- one of the pairs covers x
  abbrev pub Covered : List (V × W) → V × W → Type 0
  Covered pairs x = (i : ℕ) × ((p : V × W) × (PairAt a b pairs i p × Covers a b p x))

  -- a pair with one road more
  abbrev pub longer : V × W → List ℕ → V × W
  longer x marks = pair_join a b x (a.value marks, b.value marks)

  -- the empty trip is covered at the origin, and each pair with one open road more where that road ends
  pub record Closed (roads : List Road) (origin : ℕ) (pages : ℕ → List (V × W)) : Type 0 where
    pub none : Covered (pages origin) (a.unit, b.unit)
    pub more : (k : ℕ) (r : Road) → Numbered roads k r → r.«open» ≡ true → (i : ℕ) (x : V × W) → PairAt a b (pages r.start) i x → Covered (pages r.end) (longer x r.marks)

module _ {V W : Type 0} {a : Meaning V} {b : Meaning W} (la : Laws a) (lb : Laws b) (roads : List Road) (origin : ℕ) (pages : ℕ → List (V × W)) (closed : Closed a b roads origin pages) where
  -- what is covered where a trip starts is covered, with the trip, where it ends
  carried : (us : List Use) (s e : ℕ) (x : V × W) → Drives roads s us e → Covered a b (pages s) x → Covered a b (pages e) (onto a x.0 us, onto b x.1 us)
  carried [] s e x h c = subst (λ p. Covered a b (pages p) x) h c
  carried (u ∷ us) s e x (r, (d, rest)) (i, (p, (at, over))) =
      let (j, (q, (there, high))) = closed.more u.road r d.numbered d.free i p (subst (λ o. PairAt a b (pages o) i p) (sym d.starts) at) in
      let road : V × W = (a.value r.marks, b.value r.marks) in
      let low = covers_joins la lb p x road road over (covers_same la lb road) in
      let both = covers_trans la lb q (longer a b p r.marks) (longer a b x r.marks) high low in
      carried us r.end e (longer a b x u.marks) rest (j, (q, (there, subst (λ m. Covers a b q (longer a b x m)) (sym d.same) both)))

  -- so each trip from the origin is covered where it ends
  pub closed_whole : (us : List Use) (e : ℕ) → Drives roads origin us e → Covered a b (pages e) (worths a b us)
  unfolding worth
  closed_whole us e h = carried us origin e (a.unit, b.unit) h closed.none
