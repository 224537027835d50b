-- A computed test that trips, listed by their roads' numbers, make the pages of a sweep.
use Rattle.std.proofs.Common.{◌≡◌, ℕ, zero, suc, ◌+◌, Bool, true, not, ◌&&◌, ◌||◌, eqb, ltb, List, [], ◌∷◌, map, length, get_or, sym, refl, rules, arith}
use Rattle.std.proofs.lemmas.List.{get_or_default}
use Rattle.std.specs.List.{list_all, list_any}
use Rattle.std.proofs.lemmas.Bool.{and_parts}
use Rattle.criteria.specs.Covers.{Covers, Precedes}
use Rattle.criteria.specs.Meaning.{Meaning}
use Rattle.roads.proofs.Changes.{unread}
use Rattle.roads.specs.declared.road.Road.{Road}
use Rattle.trips.specs.Elements.{At}
use Rattle.trips.specs.Pages.{Page}
use Rattle.trips.specs.Plans.{Drives, swept}
use Rattle.trips.specs.Trips.{Use, onto, worth}
use Rattle.yard.proofs.Closed.{Covered, longer, Closed, closed_whole}
use Rattle.yard.proofs.Judges.{Judge}
use Rattle.yard.proofs.Lists.{sorted, every_at, some_at, sorted_at}

-- road number k of the table
abbrev road_of_lem : List Road → ℕ → Road
road_of_lem roads k = get_or roads k unread

-- the uses of the roads with these numbers
abbrev pub uses : List Road → List ℕ → List Use
uses roads [] = []
uses roads (k ∷ ks) = record { road = k; marks = (road_of_lem roads k).marks } ∷ uses roads ks

-- the numbers lead from s to e over open roads
abbrev leads : List Road → ℕ → List ℕ → ℕ → Bool
leads roads s [] e = eqb s e
leads roads s (k ∷ ks) e = (ltb k (length roads) && (road_of_lem roads k).«open») && (eqb (road_of_lem roads k).start s && leads roads (road_of_lem roads k).end ks e)

leads_drives : (roads : List Road) (s : ℕ) (ks : List ℕ) (e : ℕ) → leads roads s ks e ≡ true → Drives roads s (uses roads ks) e
leads_drives roads s [] e t = search rules
leads_drives roads s (k ∷ ks) e t =
    let r = road_of_lem roads k in
    let rest = leads_drives roads r.end ks e in
    let same = get_or_default roads k in
    search rules

module _ {V W : Type 0} {a : Meaning V} {b : Meaning W} {ta : V → V → Bool} {tb : W → W → Bool} (ja : Judge a ta) (jb : Judge b tb) where
  -- whether a pair covers another
  abbrev pub covers : V × W → V × W → Bool
  covers p q = ta p.0 q.0 && tb p.1 q.1

  pub covers_yes : (p q : V × W) → covers p q ≡ true → Covers a b p q
  covers_yes p q t = search (rules, ja.yes, jb.yes)

  -- whether a pair stands before another
  abbrev pub precedes : V × W → V × W → Bool
  precedes p q = covers (p.0, q.1) (q.0, p.1) && (not (ta q.0 p.0) && not (tb p.1 q.1))

  pub precedes_yes : (p q : V × W) → precedes p q ≡ true → Precedes a b p q
  precedes_yes p q t = search (rules, ja.yes, jb.yes, ja.no, jb.no)

  -- whether one of the pairs covers x
  abbrev pub covered : List (V × W) → V × W → Bool
  covered pairs x = list_any (λ p. covers p x) pairs

  pub covered_yes : (pairs : List (V × W)) (x : V × W) → covered pairs x ≡ true → Covered a b pairs x
  covered_yes pairs x t = let (i, (p, (at, over))) = some_at (λ p. covers p x) pairs t in (i, (p, (at, covers_yes p x over)))

  module _ (roads : List Road) (origin : ℕ) where
    -- what the trip over the roads with these numbers is worth
    abbrev pub value_of : List ℕ → V × W
    value_of ks = (onto a a.unit (uses roads ks), onto b b.unit (uses roads ks))

    -- the pairs of the trips that are listed for a place
    abbrev pub page : List (List (List ℕ)) → ℕ → List (V × W)
    page trips p = map value_of (get_or trips p [])

    -- whether a road, if it is open, leads no pair to one that is not covered
    abbrev closed_by : (ℕ → List (V × W)) → Road → Bool
    closed_by pages r = not r.«open» || list_all (λ x. covered (pages r.end) (longer a b x r.marks)) (pages r.start)

    -- whether pages are closed under one road more
    abbrev closed : (ℕ → List (V × W)) → Bool
    closed pages = covered (pages origin) (a.unit, b.unit) && list_all (closed_by pages) roads

    closed_yes : (pages : ℕ → List (V × W)) → closed pages ≡ true → Closed a b roads origin pages
    closed_yes pages t =
        let (start, steps) = and_parts (covered (pages origin) (a.unit, b.unit)) (list_all (closed_by pages) roads) t in
        record {
          none = covered_yes (pages origin) (a.unit, b.unit) start;
          more = λ k r at free i x there.
              let step = every_at (closed_by pages) roads steps k r at in
              let on : list_all (λ y. covered (pages r.end) (longer a b y r.marks)) (pages r.start) ≡ true = search rules in
              covered_yes (pages r.end) (longer a b x r.marks) (every_at (λ y. covered (pages r.end) (longer a b y r.marks)) (pages r.start) on i x there);
        }

    -- whether trips lead to a place, with their pairs in the order of a page
    abbrev listed_at : ℕ → List (List ℕ) → Bool
    listed_at p trips = list_all (λ ks. leads roads origin ks p) trips && sorted precedes (map value_of trips)

    -- whether those listed for each place do, from place p on
    abbrev listed_from : ℕ → List (List (List ℕ)) → Bool
    listed_from p [] = true
    listed_from p (ks ∷ trips) = listed_at p ks && listed_from (suc p) trips

    -- whether trips, listed by place, make the pages of the sweep
    abbrev pub test : List (List (List ℕ)) → Bool
    test trips = closed (page trips) && listed_from 0 trips

    listed_place : (trips : List (List (List ℕ))) (p k : ℕ) → listed_from p trips ≡ true → listed_at (p + k) (get_or trips k []) ≡ true
    listed_place [] p k t = refl
    listed_place (ks ∷ trips) p zero t = search rules
    listed_place (ks ∷ trips) p (suc k) t =
        let behind = listed_place trips (suc p) k in
        let e : p + suc k ≡ suc p + k = omega arith in
        rw e search rules

    -- a pair of the list is that of one of the trips
    value_at : (trips : List (List ℕ)) (i : ℕ) (x : V × W) → At (map value_of trips) i x → (ks : List ℕ) × (At trips i ks × (x ≡ value_of ks))
    value_at [] i x (h, e) = absurd (omega arith)
    value_at (ks ∷ trips) zero x (h, e) = (ks, (search rules, sym (e x)))
    value_at (ks ∷ trips) (suc i) x (h, e) = let (js, (at, is)) = value_at trips i x (omega arith, e) in (js, (search rules, is))

    -- then they do
    pub tested : (places : ℕ) (trips : List (List (List ℕ))) → test trips ≡ true → (p : ℕ) → Page a b (swept places roads origin) p (page trips p)
    unfolding worth
    tested places trips t p =
        let (whole, lists) = and_parts (closed (page trips)) (listed_from 0 trips) t in
        let here : listed_at p (get_or trips p []) ≡ true = let e : 0 + p ≡ p = omega arith in rw e at (listed_place trips 0 p lists) in
        let (lead, order) = and_parts (list_all (λ ks. leads roads origin ks p) (get_or trips p [])) (sorted precedes (page trips p)) here in
        record {
          sound = λ i x at.
              let (ks, (there, is)) = value_at (get_or trips p []) i x at in
              (uses roads ks, (leads_drives roads origin ks p (every_at (λ js. leads roads origin js p) (get_or trips p []) lead i ks there), is));
          whole = λ us goes. closed_whole ja.laws jb.laws roads origin (page trips) (closed_yes (page trips) whole) us p goes;
          ordered = λ i j x y lt h k. precedes_yes x y (sorted_at precedes (page trips p) order i j x y lt h k);
        }
