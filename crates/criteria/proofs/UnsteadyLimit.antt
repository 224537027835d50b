-- An order by the limit first is not steady.
use Rattle.std.proofs.Common.{refl, rules}
use Rattle.criteria.specs.Meaning.{Strict}
use Rattle.criteria.specs.Warnings.{limit_then_time, limit_time, LimitFirstIsUnsteady}

ahead : Strict limit_then_time.good (limit_time 600 50) (limit_time 400 10)
ahead = search rules

behind : Strict limit_then_time.good (limit_time 300 15) (limit_time 300 55)
behind = search rules

pub limit_first_is_unsteady : LimitFirstIsUnsteady
limit_first_is_unsteady = record {
  ahead = ahead;
  first = refl;
  second = refl;
  behind = behind;
  unsteady = λ steady. behind.apart (steady.after (limit_time 600 50) (limit_time 400 10) (limit_time 300 5) ahead).better;
  not_monotone = λ monotone. behind.apart (monotone.after (limit_time 600 50) (limit_time 400 10) (limit_time 300 5) ahead.better);
}
