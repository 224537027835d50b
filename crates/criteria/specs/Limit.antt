-- The meaning of Limit.
use Rattle.std.specs.Prelude.{◌≡◌, ℕ, ◌<◌, ◌≤◌, min, slice_index}
use Rattle.criteria.specs.declared.limit.LimitValue.{LimitValue}
use Rattle.criteria.specs.declared.limit.LimitValue.TheVariants.{Unlimited, Mark}
use Rattle.criteria.specs.Meaning.{Meaning}

-- more is better, and no limit is better than every mark
abbrev pub limit_good : LimitValue → LimitValue → Type 0
limit_good Unlimited y = Unit {0}
limit_good (Mark a) Unlimited = ⊥
limit_good (Mark a) (Mark b) = b ≤ a

-- the lesser mark, or the other value where one has no limit
abbrev pub limit_join : LimitValue → LimitValue → LimitValue
limit_join Unlimited y = y
limit_join (Mark a) Unlimited = Mark a
limit_join (Mark a) (Mark b) = Mark (min a b)

-- no limit is the value of no road, and a mark of one road or more
abbrev pub limit_passes : ℕ → LimitValue → Type 0
limit_passes k Unlimited = k ≡ 0
limit_passes k (Mark a) = 0 < k

-- the least of one mark of every road: more is better
abbrev pub limit_meaning : ℕ → Meaning LimitValue
limit_meaning column = record {
  good = limit_good;
  join = limit_join;
  unit = Unlimited;
  value = λ marks. Mark (slice_index marks column);
  passes = limit_passes;
}
