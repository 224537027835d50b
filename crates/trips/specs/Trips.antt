-- Trips and what they are worth.
use Rattle.std.specs.Prelude.{ℕ, List, [], ◌∷◌}
use Rattle.criteria.specs.Meaning.{Meaning}

-- a use of a road: its number, and the four marks that it had then
pub record Use : Type 0 where
  pub road : ℕ
  pub marks : List ℕ

-- what x becomes where the uses follow, each joined in its turn
abbrev pub onto : {V : Type 0} → Meaning V → V → List Use → V
onto m x [] = x
onto m x (u ∷ us) = onto m (m.join x (m.value u.marks)) us

-- the value of a trip: the unit joined with its uses from left to right
unfoldable pub worth : {V : Type 0} → Meaning V → List Use → V
worth m us = onto m m.unit us

-- its values by two criteria
abbrev pub worths : {V W : Type 0} → Meaning V → Meaning W → List Use → V × W
worths a b us = (worth a us, worth b us)
