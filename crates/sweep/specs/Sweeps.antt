-- What a sweep answers, and what it leaves.
use Rattle.std.specs.Prelude.{◌≡◌, ℕ, ◌+◌, ◌-◌, ◌<◌, ◌≤◌, List, ◌++◌, map, length, take, Ok, Err, Result}
use Rattle.criteria.specs.Meaning.{Meaning}
use Rattle.roads.specs.Networks.{Serving}
use Rattle.roads.specs.declared.network.Network.{Network}
use Rattle.roads.specs.declared.road.Road.{Road}
use Rattle.rows.specs.declared.row.Row.{Row}
use Rattle.rows.specs.Places.{RowAt, pair_of, pairs_at}
use Rattle.rows.specs.Sound.{LawfulRow}
use Rattle.rows.specs.Trails.{Trail}
use Rattle.trips.specs.Efficient.{EfficientItems}
use Rattle.trips.specs.Pages.{Page, Rows}
use Rattle.trips.specs.Plans.{Plan, swept, Drives, Visits, Distinct}
use Rattle.trips.specs.Trips.{Use, worths}
use Rattle.sweep.specs.declared.sweeping.SweepFault.{SweepFault}
use Rattle.sweep.specs.declared.sweeping.SweepFault.TheVariants.{ForeignTable, NoSuchPlace, RowsFull}

module _ {V W : Type 0} (a : Meaning V) (b : Meaning W) where
  -- the plan of a sweep from an origin over the roads of a network as they stand in its table
  abbrev pub plan_of : Network → List Road → ℕ → Plan
  plan_of n roads origin = swept n.places (take n.roads roads) origin

  -- what a row of a sweep stands for: the trip along its sources, which has its values and its number of roads and visits no place twice
  pub record StandsFor (n : Network) (roads : List Road) (origin : ℕ) (table : List (Row V W)) (k : ℕ) (r : Row V W) : Type 0 where
    pub uses : List Use
    pub stops : List ℕ
    pub drives : Drives (take n.roads roads) origin uses r.end
    pub values : pair_of r ≡ worths a b uses
    pub count : length uses ≡ r.roads
    pub trail : Trail table k (map (λ u. u.road) uses)
    pub visits : Visits (take n.roads roads) origin uses stops
    pub distinct : Distinct stops
    pub short : r.roads < n.places
    pub first : a.passes r.roads r.first
    pub second : b.passes r.roads r.second

  -- an accepted sweep left count rows in the front of the rows handed over, which stand behind `used` others in their table:
  -- at each place they are the page of the plan, and each stands for its trip
  pub record Accepted (n : Network) (roads : List Road) (used origin count : ℕ) (rows : List (Row V W)) : Type 0 where
    pub room : count ≤ length rows
    pub pages : (place : ℕ) → Page a b (plan_of n roads origin) place (pairs_at place (take count rows))
    pub number : Rows a b n.places (plan_of n roads origin) count
    pub each : (front : List (Row V W)) → length front ≡ used → (k : ℕ) (r : Row V W) → RowAt (take count rows) k r → StandsFor n roads origin (front ++ take count rows) (used + k) r

  -- the tables fit: the road table serves the network, and the rows end at the table's 65,536th at the latest
  abbrev pub Fitting : Network → List Road → ℕ → ℕ → Type 0
  Fitting n roads used free = (used + free ≤ 65536) × Serving n roads

  -- the plan has more efficient pairs, by place, than there are free rows
  pub record Crowded (n : Network) (roads : List Road) (origin free : ℕ) : Type 0 where
    pub items : List (ℕ × (V × W))
    pub many : free < length items
    pub efficient : EfficientItems a b n.places (plan_of n roads origin) items

  -- which refusal comes, the first that applies of: a foreign table, no such place, fewer free rows than the plan has
  abbrev pub Declined : Network → List Road → ℕ → ℕ → ℕ → SweepFault → Type 0
  Declined n roads used free origin ForeignTable = Fitting n roads used free → ⊥
  Declined n roads used free origin NoSuchPlace = Fitting n roads used free × (n.places ≤ origin)
  Declined n roads used free origin RowsFull = Fitting n roads used free × (origin < n.places) × Crowded n roads origin free × ((m : ℕ) → Rows a b n.places (plan_of n roads origin) m → free < m)

  -- a sweep over so many free rows answers r and leaves them as rows
  abbrev pub Swept : Network → List Road → ℕ → ℕ → ℕ → Result ℕ SweepFault → List (Row V W) → Type 0
  Swept n roads used free origin (Ok count) rows = Fitting n roads used free × (origin < n.places) × Accepted n roads used origin count rows
  Swept n roads used free origin (Err f) rows = Declined n roads used free origin f

  -- the first count rows that a sweep left, which stand behind `used` others in their table, may stand where they do, in a sheet whose
  -- reach is the number of places less one
  pub record MayStand (n : Network) (used count : ℕ) (rows : List (Row V W)) : Type 0 where
    pub each : (front : List (Row V W)) → length front ≡ used → (k : ℕ) (r : Row V W) → RowAt (take count rows) k r → LawfulRow a b n.places n.roads (front ++ take count rows) (n.places - 1) (used + k) r
