-- What the calls that alter a road of a network answer, and what they leave.
use Rattle.std.specs.Prelude.{◌≡◌, ℕ, ◌<◌, ◌≤◌, Bool, List, Ok, Err, Result, slice_index_or, slice_set}
use Rattle.roads.specs.declared.fault.NetworkFault.{NetworkFault}
use Rattle.roads.specs.declared.fault.NetworkFault.TheVariants.{NoSuchMark, NoSuchRoad, ForeignTable}
use Rattle.roads.specs.declared.network.Network.{Network}
use Rattle.roads.specs.declared.road.Road.{Road}
use Rattle.roads.specs.Tables.{Serves, turned, marked}

-- the table serves the network
abbrev pub Serving : Network → List Road → Type 0
Serving n t = Serves n.places n.roads t

-- which refusal comes for road i: the first that applies of a foreign table, and no such road
abbrev pub RoadRefused : Network → List Road → ℕ → NetworkFault → Type 0
RoadRefused n t i ForeignTable = Serving n t → ⊥
RoadRefused n t i NoSuchRoad = Serving n t × (n.roads ≤ i)
RoadRefused n t i NoSuchMark = ⊥

-- the entry of road i in the table
abbrev pub Found : Network → List Road → ℕ → Result ℕ NetworkFault → Type 0
Found n t i (Ok at) = Serving n t × (i < n.roads) × (at ≡ i)
Found n t i (Err f) = RoadRefused n t i f

-- which refusal comes for mark k of road i: as above, and then no such mark
abbrev pub MarkRefused : Network → List Road → ℕ → ℕ → NetworkFault → Type 0
MarkRefused n t i k NoSuchMark = Serving n t × (i < n.roads) × (4 ≤ k)
MarkRefused n t i k ForeignTable = RoadRefused n t i ForeignTable
MarkRefused n t i k NoSuchRoad = RoadRefused n t i NoSuchRoad

-- setting mark k of road i to v answers r and leaves the table t':
-- that one mark of that one road is v, and all else is as it was; a refusal changes nothing
abbrev pub ReMarked : Network → List Road → ℕ → ℕ → ℕ → Result (Unit {0}) NetworkFault → List Road → Type 0
ReMarked n t i k v (Ok _) t' = Serving n t × (i < n.roads) × (k < 4) × ((d : Road) → t' ≡ slice_set t i (marked k v (slice_index_or t i d)))
ReMarked n t i k v (Err f) t' = MarkRefused n t i k f × (t' ≡ t)

-- shutting (b is false) or reopening (true) road i answers r and leaves the table t':
-- only that road's openness is set; a refusal changes nothing
abbrev pub Turned : Network → List Road → ℕ → Bool → Result (Unit {0}) NetworkFault → List Road → Type 0
Turned n t i b (Ok _) t' = Serving n t × (i < n.roads) × ((d : Road) → t' ≡ slice_set t i (turned b (slice_index_or t i d)))
Turned n t i b (Err f) t' = RoadRefused n t i f × (t' ≡ t)
