-- The definition of a loading leaves no choice.
use Rattle.std.specs.Prelude.{◌≡◌, ℕ, List, Ok, Err, Result}
use Rattle.roads.specs.declared.network.Network.{Network}
use Rattle.roads.specs.declared.road.Road.{Road}
use Rattle.roadfile.specs.declared.fault.LoadFault.{LoadFault}
use Rattle.roadfile.specs.Loading.{Loaded}

-- two loadings answer the same: as many places and roads, or the same fault at the same offset
abbrev pub Same : Result Network LoadFault → Result Network LoadFault → Type 0
Same (Ok n) (Ok m) = (n.places ≡ m.places) × (n.roads ≡ m.roads)
Same (Ok n) (Err g) = ⊥
Same (Err f) (Ok m) = ⊥
Same (Err f) (Err g) = (f.fault ≡ g.fault) × (f.offset ≡ g.offset)

-- a file over a road table has one outcome: one answer, and one table afterwards
abbrev pub OneOutcome : Type 0
OneOutcome = (file : List ℕ) (t : List Road) (r q : Result Network LoadFault) (u v : List Road) → Loaded file t r u → Loaded file t q v → Same r q × (u ≡ v)
