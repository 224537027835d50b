-- What one step of a sweep came to.
use Rattle.std.specs.Prelude.{◌≡◌, ℕ, ◌+◌, ◌<◌, ◌≤◌, Bool, true, false, List, length, take, Ok, Err, Option, Result}
use Rattle.criteria.specs.Meaning.{Meaning}
use Rattle.roads.specs.declared.road.Road.{Road}
use Rattle.rows.specs.declared.row.Row.{Row}
use Rattle.growth.specs.Growing.{Fresh, Next}
use Rattle.growth.specs.Sourced.{Sourced}
use Rattle.frontiers.specs.Frontiers.{Searching}
use Rattle.sweep.specs.declared.sweeping.SweepFault.{SweepFault}
use Rattle.sweep.specs.declared.sweeping.SweepFault.TheVariants.{RowsFull}

module _ {V W : Type 0} (a : Meaning V) (b : Meaning W) where
  -- one step of a sweep with n rows: a row was added, or there is one but no room for it, or there is none
  abbrev pub Advanced : List Road → ℕ → ℕ → ℕ → ℕ → List (Row V W) → List (Row V W) → List (Option (Row V W)) → List (Option ℕ) → List (Option ℕ) → Result Bool SweepFault → Type 0
  Advanced roads places origin base n table table' best last prev (Ok true) = (n < length table) × ((take n table' ≡ take n table) × Searching a b roads places origin base (take (n + 1) table') best last prev)
  Advanced roads places origin base n table table' best last prev (Err f) = (f ≡ RowsFull) × ((length table ≤ n) × ((table' ≡ table) × ((c : Row V W) × Next a b roads base (take n table) c)))
  Advanced roads places origin base n table table' best last prev (Ok false) = (table' ≡ table) × ((z : Row V W) → Fresh a b roads base (take n table) z → ⊥)

-- where a row was added behind n rows, each of them and the new one has its source before it
abbrev pub SourcedAfter : {V W : Type 0} → ℕ → ℕ → ℕ → List (Row V W) → Result Bool SweepFault → Type 0
SourcedAfter roads base n table (Ok true) = Sourced roads base (take (n + 1) table)
SourcedAfter roads base n table (Err f) = Unit {0}
SourcedAfter roads base n table (Ok false) = Unit {0}
