-- The meaning of Peak.
use Rattle.std.specs.Prelude.{◌≡◌, ℕ, ◌<◌, ◌≤◌, max, slice_index}
use Rattle.criteria.specs.declared.peak.PeakValue.{PeakValue}
use Rattle.criteria.specs.declared.peak.PeakValue.TheVariants.{Level, Mark}
use Rattle.criteria.specs.Meaning.{Meaning}

-- less is better, and level is better than every mark
abbrev pub peak_good : PeakValue → PeakValue → Type 0
peak_good Level y = Unit {0}
peak_good (Mark a) Level = ⊥
peak_good (Mark a) (Mark b) = a ≤ b

-- the greater mark, or the other value where one is level
abbrev pub peak_join : PeakValue → PeakValue → PeakValue
peak_join Level y = y
peak_join (Mark a) Level = Mark a
peak_join (Mark a) (Mark b) = Mark (max a b)

-- level is the value of no road, and a mark of one road or more
abbrev pub peak_passes : ℕ → PeakValue → Type 0
peak_passes k Level = k ≡ 0
peak_passes k (Mark a) = 0 < k

-- the greatest of one mark of every road: less is better
abbrev pub peak_meaning : ℕ → Meaning PeakValue
peak_meaning column = record {
  good = peak_good;
  join = peak_join;
  unit = Level;
  value = λ marks. Mark (slice_index marks column);
  passes = peak_passes;
}
