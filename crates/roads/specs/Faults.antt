-- The numbers by which refusals are known.
use Rattle.std.specs.Prelude.{ℕ}
use Rattle.roads.specs.declared.fault.DraftFault.{DraftFault}
use Rattle.roads.specs.declared.fault.DraftFault.TheVariants as draft
use Rattle.roads.specs.declared.fault.NetworkFault.{NetworkFault}
use Rattle.roads.specs.declared.fault.NetworkFault.TheVariants as network

abbrev pub draft_number : DraftFault → ℕ
draft_number draft.UnknownPlace = 6
draft_number draft.PlacesFull = 7
draft_number draft.RoadsFull = 8
draft_number draft.NoPlace = 9
draft_number draft.ForeignTable = 22

abbrev pub network_number : NetworkFault → ℕ
network_number network.NoSuchMark = 10
network_number network.NoSuchRoad = 11
network_number network.ForeignTable = 22
