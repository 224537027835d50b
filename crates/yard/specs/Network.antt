-- The yard: four places and seven roads.
use Rattle.std.specs.Prelude.{ℕ, Bool, true, false, List, [], ◌∷◌}
use Rattle.roads.specs.declared.road.Road.{Road}
use Rattle.trips.specs.Plans.{Plan, swept, series, pool}

-- a road from one place to another with its four marks; it is open or shut
abbrev pub road : Bool → ℕ → ℕ → ℕ → ℕ → ℕ → ℕ → Road
road free start end m0 m1 m2 m3 = record { start = start; end = end; marks = m0 ∷ m1 ∷ m2 ∷ m3 ∷ []; «open» = free }

-- the roads of the yard, all open but for road 1, which is open or shut
abbrev pub roads_with : Bool → List Road
roads_with free =
    road true 0 1 10 5 400 2 ∷
    road free 1 3 10 5 200 2 ∷
    road true 0 2 15 1 300 6 ∷
    road true 2 3 15 3 300 1 ∷
    road true 0 3 40 2 600 3 ∷
    road true 1 2 0 0 400 0 ∷
    road true 3 0 12 1 500 4 ∷
    []

-- all of them open
abbrev pub yard_roads : List Road
yard_roads = roads_with true

-- the sweep from a place
abbrev pub sweep_from : ℕ → Plan
sweep_from origin = swept 4 yard_roads origin

-- the sweep from place 0 while road 1 is shut
abbrev pub sweep_while_shut : Plan
sweep_while_shut = swept 4 (roads_with false) 0

-- the sweep from place 0 in series with the one from place 3
abbrev pub round_trip : Plan
round_trip = series (sweep_from 0) (sweep_from 3)

-- the sweep from place 0 pooled with that series
abbrev pub all_together : Plan
all_together = pool (sweep_from 0) round_trip
