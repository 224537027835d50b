-- The classes of rigs, and which of them a limit bears.
use Rattle.std.specs.Prelude.{ℕ, ◌<◌, ◌≤◌, List, [], ◌∷◌, length, Some, None, Option, slice_index}
use Rattle.criteria.specs.declared.limit.LimitValue.{LimitValue}
use Rattle.criteria.specs.declared.limit.LimitValue.TheVariants.{Unlimited, Mark}

-- the gross masses of classes 0 to 11, in hundreds of kilograms
abbrev pub masses : List ℕ
masses = 35 ∷ 80 ∷ 120 ∷ 160 ∷ 185 ∷ 225 ∷ 260 ∷ 305 ∷ 360 ∷ 425 ∷ 500 ∷ 680 ∷ []

-- every mass is above those before it
abbrev pub StrictlyRising : List ℕ → Type 0
StrictlyRising table = (i j : ℕ) → i < j → j < length table → slice_index table i < slice_index table j

-- the limit bears the mass: it is not above the limit
abbrev pub Bears : LimitValue → ℕ → Type 0
Bears Unlimited mass = Unit {0}
Bears (Mark limit) mass = mass ≤ limit

-- c is the highest class of the table that the limit bears
pub record Highest (table : List ℕ) (limit : LimitValue) (c : ℕ) : Type 0 where
  pub within : c < length table
  pub borne : Bears limit (slice_index table c)
  pub top : (d : ℕ) → c < d → d < length table → Bears limit (slice_index table d) → ⊥

-- the answer is the highest class that the limit bears, or that it bears none
abbrev pub Chosen : List ℕ → LimitValue → Option ℕ → Type 0
Chosen table limit (Some c) = Highest table limit c
Chosen table limit None = (d : ℕ) → d < length table → Bears limit (slice_index table d) → ⊥
