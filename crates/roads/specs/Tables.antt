-- Road tables: which serve a network, and what a change leaves in one.
use Rattle.std.specs.Prelude.{ℕ, ◌<◌, ◌≤◌, Bool, true, List, ◌++◌, map, length, take, drop, slice_index_or, slice_set}
use Rattle.roads.specs.declared.road.Road.{Road}

-- the road names places that exist, where there are so many
pub record Within (places : ℕ) (r : Road) : Type 0 where
  pub starts : r.start < places
  pub ends : r.end < places

-- the table serves a draft or a network of so many places and roads:
-- it has an entry for each road, and every counted road names places that exist
pub record Serves (places roads : ℕ) (table : List Road) : Type 0 where
  pub long : roads ≤ length table
  pub named : (i : ℕ) (d : Road) → i < roads → Within places (slice_index_or table i d)

-- the road with another openness
abbrev pub turned : Bool → Road → Road
turned b r = record { start = r.start; end = r.end; marks = r.marks; «open» = b }

-- the road with v as its mark of number k
abbrev pub marked : ℕ → ℕ → Road → Road
marked k v r = record { start = r.start; end = r.end; marks = slice_set r.marks k v; «open» = r.«open» }

-- the table with its first n roads open
abbrev pub opened : ℕ → List Road → List Road
opened n table = map (turned true) (take n table) ++ drop n table
