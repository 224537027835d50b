-- What the calls on a draft answer, and what they leave.
use Rattle.std.specs.Prelude.{◌≡◌, ℕ, ◌+◌, ◌<◌, ◌≤◌, true, ◌⊎◌, List, length, set, Ok, Err, Result}
use Rattle.roads.specs.declared.draft.Draft.{Draft}
use Rattle.roads.specs.declared.draft.calls.Unclosed.{Unclosed}
use Rattle.roads.specs.declared.fault.DraftFault.{DraftFault}
use Rattle.roads.specs.declared.fault.DraftFault.TheVariants.{UnknownPlace, PlacesFull, RoadsFull, NoPlace, ForeignTable}
use Rattle.roads.specs.declared.network.Network.{Network}
use Rattle.roads.specs.declared.road.Road.{Road}
use Rattle.roads.specs.Tables.{Serves, opened}

-- adding a place to d answers r and leaves e: the next number, or a refusal where 2,048 places exist
abbrev pub Placed : Draft → Result ℕ DraftFault → Draft → Type 0
Placed d (Ok n) e = (d.places < 2048) × (n ≡ d.places) × (e.places ≡ d.places + 1) × (e.roads ≡ d.roads)
Placed d (Err f) e = (f ≡ PlacesFull) × (d.places ≡ 2048) × (e ≡ d)

-- the table serves the draft
abbrev pub Serving : Draft → List Road → Type 0
Serving d t = Serves d.places d.roads t

-- a road of d could be added to the table t only if it had places from s to e: which refusal comes where it cannot,
-- the first that applies of: a foreign table, a place not yet added, no room for another road
abbrev pub LayingRefused : Draft → List Road → ℕ → ℕ → DraftFault → Type 0
LayingRefused d t s e ForeignTable = Serving d t → ⊥
LayingRefused d t s e UnknownPlace = Serving d t × ((d.places ≤ s) ⊎ (d.places ≤ e))
LayingRefused d t s e RoadsFull = Serving d t × (s < d.places) × (e < d.places) × ((d.roads ≡ 16384) ⊎ (d.roads ≡ length t))
LayingRefused d t s e PlacesFull = ⊥
LayingRefused d t s e NoPlace = ⊥

-- adding a road from s to e with marks m to d and the table t answers r, and leaves the draft d' and the table t':
-- the road is open and stands in the next entry, and nothing else changes; a refusal changes nothing
abbrev pub Laid : Draft → List Road → ℕ → ℕ → List ℕ → Result ℕ DraftFault → Draft → List Road → Type 0
Laid d t s e m (Ok n) d' t' =
    Serving d t × (s < d.places) × (e < d.places) × (d.roads < 16384) × (d.roads < length t) × (n ≡ d.roads) × (d'.places ≡ d.places) × (d'.roads ≡ d.roads + 1) × (t' ≡ set t n (record { start = s; end = e; marks = m; «open» = true }))
Laid d t s e m (Err f) d' t' = LayingRefused d t s e f × (d' ≡ d) × (t' ≡ t)

-- which refusal a closing has: the first that applies of a foreign table, and no place
abbrev pub ClosingRefused : Draft → List Road → DraftFault → Type 0
ClosingRefused d t ForeignTable = Serving d t → ⊥
ClosingRefused d t NoPlace = Serving d t × (d.places ≡ 0)
ClosingRefused d t UnknownPlace = ⊥
ClosingRefused d t PlacesFull = ⊥
ClosingRefused d t RoadsFull = ⊥

-- closing d over the table t answers r and leaves the table t':
-- a network of the same places and roads, all of them open; a refusal gives the draft back and changes nothing
abbrev pub Closed : Draft → List Road → Result Network Unclosed → List Road → Type 0
Closed d t (Ok n) t' = Serving d t × (0 < d.places) × (n.places ≡ d.places) × (n.roads ≡ d.roads) × (t' ≡ opened d.roads t)
Closed d t (Err u) t' = ClosingRefused d t u.fault × (u.draft ≡ d) × (t' ≡ t)
