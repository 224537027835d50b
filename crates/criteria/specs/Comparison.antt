-- What a comparison answers, over any order.
use Rattle.std.specs.Prelude.{◌≡◌}
use Rattle.criteria.specs.declared.comparison.Comparison.{Comparison}
use Rattle.criteria.specs.declared.comparison.Comparison.TheVariants.{Better, Equal, Worse}
use Rattle.criteria.specs.Meaning.{Strict}

-- of x and y: x is strictly better, they are one value, or y is strictly better
abbrev pub Compared : {V : Type 0} → (V → V → Type 0) → V → V → Comparison → Type 0
Compared good x y Better = Strict good x y
Compared good x y Equal = x ≡ y
Compared good x y Worse = Strict good y x
