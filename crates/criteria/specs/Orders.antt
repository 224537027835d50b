-- What follows of strictly better.
use Rattle.std.specs.Prelude.{◌≢◌}
use Rattle.std.proofs.Common.{sym, subst}
use Rattle.criteria.specs.Meaning.{Meaning, Strict, Order}

-- no value is strictly better than itself
pub strict_apart : {V : Type 0} {good : V → V → Type 0} {x y : V} → Strict good x y → x ≢ y
strict_apart {good = good} {x = x} s e = let t = subst (λ z. Strict good x z) (sym e) s in t.apart t.better

pub strict_trans : {V : Type 0} {m : Meaning V} {x y z : V} → Order m → Strict m.good x y → Strict m.good y z → Strict m.good x z
strict_trans {x = x} {y = y} {z = z} o s t = record {
  better = o.trans x y z s.better t.better;
  apart = λ back. t.apart (o.trans z x y back s.better);
}
