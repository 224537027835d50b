-- The yard in the making.
use Rattle.std.specs.Prelude.{◌≡◌, ℕ, List, length, take}
use Rattle.roads.specs.declared.draft.Draft.{Draft}
use Rattle.roads.specs.declared.network.Network.{Network}
use Rattle.roads.specs.declared.road.Road.{Road}
use Rattle.yard.specs.Network.{yard_roads}

-- what a road is laid from: where it starts and ends, and its marks
abbrev pub entry_of : Road → ℕ × ℕ × List ℕ
entry_of r = (r.start, r.end, r.marks)

-- a draft of the yard's places has the first n of its roads, in the front of a table that has room for all
pub record Begun (n : ℕ) (d : Draft) (table : List Road) : Type 0 where
  pub places : d.places ≡ 4
  pub roads : d.roads ≡ n
  pub long : length table ≡ 7
  pub same : take n table ≡ take n yard_roads

-- a network has the yard's places and roads
pub record Built (n : Network) (table : List Road) : Type 0 where
  pub places : n.places ≡ 4
  pub roads : n.roads ≡ 7
  pub table_is : table ≡ yard_roads
