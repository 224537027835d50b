-- The value of two trips, one after the other.
use Rattle.std.specs.Prelude.{◌≡◌, List, ◌++◌}
use Rattle.criteria.specs.Meaning.{Meaning}
use Rattle.trips.specs.Trips.{Use, worth}

-- the value of x and then y is the join of their values
abbrev pub WorthOfBoth : {V : Type 0} → Meaning V → Type 0
WorthOfBoth m = (x y : List Use) → worth m (x ++ y) ≡ m.join (worth m x) (worth m y)

-- the join of two pairs of values, by each criterion
abbrev pub pair_join : {V W : Type 0} → Meaning V → Meaning W → V × W → V × W → V × W
pair_join a b p q = (a.join p.0 q.0, b.join p.1 q.1)
