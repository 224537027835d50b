-- What a search in the unused part of a row table makes of the whole.
use Rattle.std.proofs.Common.{◌≡◌, ℕ, ◌+◌, ◌<◌, ◌≤◌, ◌⊎◌, List, ◌++◌, map, length, take, replicate, Ok, Err, Result, IfOk, IfErr, sym, ◌∙◌, subst, ⊎_elim, arith}
use lib.ListN.{length-replicate}
use Rattle.std.proofs.lemmas.List.{get_or-take, length-take-le}
use Rattle.criteria.specs.Meaning.{Meaning, Laws}
use Rattle.roads.specs.Networks.{Serving}
use Rattle.roads.specs.Tables.{Within}
use Rattle.roads.specs.declared.network.Network.{Network}
use Rattle.roads.specs.declared.road.Road.{Road}
use Rattle.rows.specs.declared.row.Row.{Row}
use Rattle.rows.specs.Sound.{Made}
use Rattle.rows.specs.Trails.{Trail}
use Rattle.rows.proofs.Filter.{row_exists}
use Rattle.trips.specs.Pages.{Rows}
use Rattle.trips.specs.Plans.{Numbered}
use Rattle.growth.specs.Complete.{Inside}
use Rattle.growth.specs.Grown.{Grown}
use Rattle.growth.specs.Growing.{Fresh, Next}
use Rattle.growth.specs.Sourced.{Sourced}
use Rattle.growth.proofs.Bounds.{ends_within, few_roads}
use Rattle.growth.proofs.Counting.{exactly, room, some_row, crowd, crowd_one}
use Rattle.growth.proofs.Wholeness.{page}
use Rattle.frontiers.specs.Frontiers.{Founded, Grew, Searched}
use Rattle.sweep.specs.Sweeps.{plan_of, Accepted, Crowded, Swept, MayStand}
use Rattle.sweep.specs.declared.sweeping.SweepFault.{SweepFault}
use Rattle.sweep.specs.declared.sweeping.SweepFault.TheVariants.{RowsFull}

-- the counted roads of a table that serves a network name its places
pub counted_named : (n : Network) (roads : List Road) → Serving n roads → (i : ℕ) (r : Road) → Numbered (take n.roads roads) i r → Within n.places r
counted_named n roads s i r (low, is) =
    let within : i < n.roads = omega (arith, length-take-le n.roads roads s.long) in
    subst (Within n.places) (sym (get_or-take n.roads roads i r within) ∙ is r) (s.named i r within)

module _ {V W : Type 0} (a : Meaning V) (b : Meaning W) (n : Network) (roads : List Road) (origin used : ℕ) (serves : Serving n roads) (inside : origin < n.places) (la : Laws a) (lb : Laws b) where
  within : Inside n.places (take n.roads roads) origin
  within = record { named = counted_named n roads serves; begins = inside }

  grown_of : (front rs : List (Row V W)) → length front ≡ used → Grew a b (take n.roads roads) n.places origin used rs → Grown a b (take n.roads roads) origin front rs
  grown_of front rs long g = subst (λ o. Grown a b (take n.roads roads) o front rs) g.same_origin (g.standing.grown front long)

  pub accepted : (count : ℕ) (rows : List (Row V W)) → count ≤ length rows → Grew a b (take n.roads roads) n.places origin used (take count rows) → ((z : Row V W) → Fresh a b (take n.roads roads) used (take count rows) z → ⊥) → Accepted a b n roads used origin count rows
  accepted count rows few grew none =
      let rs = take count rows in
      let (r₀, _) = row_exists rs 0 grew.standing.some in
      let front = replicate used r₀ in
      let front_long = length-replicate used r₀ in
      let g = grown_of front rs front_long grew in
      let none' : (z : Row V W) → Fresh a b (take n.roads roads) (length front) rs z → ⊥ = λ z f. none z (subst (λ m. Fresh a b (take n.roads roads) m rs z) front_long f) in
      record {
        room = few;
        pages = page a b la lb (take n.roads roads) origin front rs g n.places none';
        number = subst (Rows a b n.places (plan_of a b n roads origin)) (length-take-le count rows few) (exactly la lb n.places (take n.roads roads) origin within front rs g none');
        each = λ before long i r at.
            let h = grown_of before rs long grew in
            let known = h.known i r at in
            let tested = grew.standing.tested i r at in
            record {
              uses = known.uses;
              stops = known.stops;
              drives = known.drives;
              values = known.values;
              count = known.count;
              trail = subst (λ m. Trail (before ++ rs) (m + i) (map (λ u. u.road) known.uses)) long known.trail;
              visits = known.visits;
              distinct = known.distinct;
              short = few_roads a b la lb (take n.roads roads) origin before rs h n.places (counted_named n roads serves) inside i r at;
              first = tested.passing.first;
              second = tested.passing.second;
            };
      }

  -- the rows of a sweep may stand where they do
  pub may_stand : (count : ℕ) (rows : List (Row V W)) → Grew a b (take n.roads roads) n.places origin used (take count rows) → Sourced (length (take n.roads roads)) used (take count rows) → MayStand a b n used count rows
  may_stand count rows grew sourced = record {
    each = λ before long i r at.
        let rs = take count rows in
        let h = grown_of before rs long grew in
        let passing = (grew.standing.tested i r at).passing in
        record {
          fits = record {
            ends = ends_within a b la lb (take n.roads roads) origin before rs h n.places (counted_named n roads serves) inside i r at;
            near = omega (arith, few_roads a b la lb (take n.roads roads) origin before rs h n.places (counted_named n roads serves) inside i r at);
            first = passing.first;
            second = passing.second;
          };
          made = subst (λ m. Made m (before ++ rs) (used + i) r.roads r.source) (length-take-le n.roads roads serves.long) (sourced.each before long i r at);
        };
  }

  pub overfull : (rows : List (Row V W)) → (length rows ≡ 0) ⊎ (Grew a b (take n.roads roads) n.places origin used rows × ((c : Row V W) × Next a b (take n.roads roads) used rows c)) → (m : ℕ) → Rows a b n.places (plan_of a b n roads origin) m → length rows < m
  overfull rows why m number =
      ⊎_elim
      (λ empty. let one = some_row la lb n.places (take n.roads roads) origin within m number in omega arith)
      (λ (grew, (c, next)).
      let front = replicate used c in
      let long = length-replicate used c in
      room la lb n.places (take n.roads roads) origin within front rows c m (grown_of front rows long grew) (subst (λ k. Next a b (take n.roads roads) k rows c) (sym long) next) number)
      why

  pub crowded : (rows : List (Row V W)) → (length rows ≡ 0) ⊎ (Grew a b (take n.roads roads) n.places origin used rows × ((c : Row V W) × Next a b (take n.roads roads) used rows c)) → Crowded a b n roads origin (length rows)
  crowded rows why =
      ⊎_elim
      (λ empty.
      let (xs, (some, all)) = crowd_one la lb n.places (take n.roads roads) origin within in
      record { items = xs; many = omega arith; efficient = all })
      (λ (grew, (c, next)).
      let front = replicate used c in
      let long = length-replicate used c in
      let (xs, (many, all)) = crowd la lb n.places (take n.roads roads) origin within front rows c (grown_of front rows long grew) (subst (λ k. Next a b (take n.roads roads) k rows c) (sym long) next) in
      record { items = xs; many = many; efficient = all })
      why

  -- a search over the counted roads is well founded
  pub founded : (free : ℕ) → used + free ≤ 65536 → n.places ≤ 2048 → n.roads ≤ 16384 → Founded a b (take n.roads roads) n.places origin used free
  founded free fits places_fit roads_fit = record { first_laws = la; second_laws = lb; named = counted_named n roads serves; inside = inside; small = places_fit; counted = omega (arith, length-take-le n.roads roads serves.long); fits = fits }

  -- what a search of the counted roads says of the whole answer
  pub swept_by : (free : ℕ) (rows : List (Row V W)) (found : Result ℕ SweepFault) → used + free ≤ 65536 → length rows ≡ free → Searched a b (take n.roads roads) n.places origin used rows found → IfErr found (λ f. f ≡ RowsFull) → Swept a b n roads used free origin found rows
  swept_by free rows (Ok count) fits long (few, (grew, none)) full = ((fits, serves), inside, accepted count rows few grew none)
  swept_by free rows (Err f) fits long why full =
      subst (λ x. Swept a b n roads used free origin (Err x) rows) (sym full) (
        (fits, serves),
        inside,
        subst (Crowded a b n roads origin) long (crowded rows why),
        λ m number. subst (λ k. k < m) long (overfull rows why m number),
      )

  -- and of where its rows may stand
  pub lawful_by : (rows : List (Row V W)) (found : Result ℕ SweepFault) → Searched a b (take n.roads roads) n.places origin used rows found → IfOk found (λ count. Sourced (length (take n.roads roads)) used (take count rows)) → IfOk found (λ count. MayStand a b n used count rows)
  lawful_by rows (Ok count) (few, (grew, none)) sourced = may_stand count rows grew sourced
  lawful_by rows (Err f) why sourced = tt
