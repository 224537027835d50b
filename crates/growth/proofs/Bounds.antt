-- A row ends at a place of the network, and has fewer roads than there are places.
use Rattle.std.proofs.Common.{◌≡◌, ℕ, ◌+◌, ◌<◌, List, [], ◌∷◌, length, ap, subst, arith}
use Rattle.criteria.specs.Meaning.{Meaning, Laws}
use Rattle.roads.specs.Tables.{Within}
use Rattle.roads.specs.declared.road.Road.{Road}
use Rattle.rows.specs.declared.row.Row.{Row}
use Rattle.rows.specs.Places.{RowAt}
use Rattle.trips.specs.Plans.{Numbered, Drives, Visits}
use Rattle.trips.specs.Trips.{Use}
use Rattle.trips.proofs.Pigeonhole.{distinct_short}
use Rattle.growth.specs.Grown.{Grown}

-- a trip over roads of the network ends at one of its places
pub drives_within : (places : ℕ) (roads : List Road) → ((i : ℕ) (r : Road) → Numbered roads i r → Within places r) → (s : ℕ) (us : List Use) (e : ℕ) → s < places → Drives roads s us e → e < places
drives_within places roads named s [] e h d = subst (λ z. z < places) d h
drives_within places roads named s (u ∷ us) e h (r, (d, on)) = drives_within places roads named r.end us e (named u.road r d.numbered).ends on

-- it visits one place more than it has roads
pub visits_length : (roads : List Road) (s : ℕ) (us : List Use) (stops : List ℕ) → Visits roads s us stops → length stops ≡ length us + 1
visits_length roads s [] stops v = ap length v
visits_length roads s (u ∷ us) stops (r, (rest, (d, is, v))) = let more = visits_length roads r.end us rest v in omega (arith, ap length is)

module _ {V W : Type 0} (a : Meaning V) (b : Meaning W) (la : Laws a) (lb : Laws b) (roads : List Road) (origin : ℕ) (front rs : List (Row V W)) (g : Grown a b roads origin front rs) (places : ℕ) (named : (i : ℕ) (r : Road) → Numbered roads i r → Within places r) (inside : origin < places) where
  -- every row ends at a place of the network
  pub ends_within : (i : ℕ) (p : Row V W) → RowAt rs i p → p.end < places
  ends_within i p at = let k = g.known i p at in drives_within places roads named origin k.uses p.end inside k.drives

  -- and has fewer roads than there are places
  pub few_roads : (i : ℕ) (p : Row V W) → RowAt rs i p → p.roads < places
  few_roads i p at =
      let k = g.known i p at in
      let long = visits_length roads origin k.uses k.stops k.visits in
      let few = distinct_short k.stops places
      (λ j lt. let q = k.passed j lt in subst (λ z. z < places) q.ends (ends_within q.index q.row q.stands))
      k.distinct in
      omega (arith, k.count)
