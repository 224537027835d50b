-- Why the frontier of a sweep gives the next row.
use Rattle.std.specs.Prelude.{◌≡◌, ℕ, ◌+◌, List, Some, None, Option, ◌≢◌}
use Rattle.criteria.specs.Meaning.{Meaning}
use Rattle.roads.specs.declared.road.Road.{Road}
use Rattle.rows.specs.declared.row.Row.{Row}
use Rattle.trips.specs.Plans.{Numbered}
use Rattle.growth.specs.Growing.{Fresh, Next}
use Rattle.frontiers.specs.Frontiers.{Seeing, Renewed, Tried, Chosen, Searching}

module _ {V W : Type 0} (a : Meaning V) (b : Meaning W) where
  -- the newest row was offered with a road that leaves its place: every place still holds the best of what has been seen
  abbrev pub StaysRenewed : Type 0
  StaysRenewed =
      (roads : List Road) (base : ℕ) (rs : List (Row V W)) (last prev : List (Option ℕ)) (best best' : List (Option (Row V W))) (newest place j : ℕ) (r : Road) →
      Seeing a b roads base rs last prev best newest place j →
      Numbered roads j r →
      r.start ≡ place →
      (r.end ≢ place) →
      Tried a b roads base rs newest j last best best' →
      Renewed a b roads base rs place newest best' (j + 1)

  -- the best of what all places hold is the next row
  abbrev pub ChoosesNext : Type 0
  ChoosesNext =
      (roads : List Road) (places origin base : ℕ) (rs : List (Row V W)) (best : List (Option (Row V W))) (last prev : List (Option ℕ)) (c : Row V W) →
      Searching a b roads places origin base rs best last prev →
      Chosen a b places best (Some c) →
      Next a b roads base rs c

  -- where no place holds anything, no uncovered extension is left
  abbrev pub LeavesNone : Type 0
  LeavesNone =
      (roads : List Road) (places origin base : ℕ) (rs : List (Row V W)) (best : List (Option (Row V W))) (last prev : List (Option ℕ)) (z : Row V W) →
      Searching a b roads places origin base rs best last prev →
      Chosen a b places best None →
      Fresh a b roads base rs z →
      ⊥
