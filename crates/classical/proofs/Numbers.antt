-- What a trip is worth by the criterion of an objective is the number that its path has.
use Rattle.std.proofs.Common.{◌≡◌, ℕ, ◌+◌, min, max, List, [], ◌∷◌, get_or, sym, refl, ap, ◌∙◌, subst, arith}
use Rattle.criteria.specs.Limit.{limit_meaning}
use Rattle.criteria.specs.Peak.{peak_meaning}
use Rattle.criteria.specs.Sum.{sum_meaning}
use Rattle.criteria.specs.declared.limit.LimitValue.TheVariants as limit
use Rattle.criteria.specs.declared.peak.PeakValue.TheVariants as peak
use Rattle.criteria.specs.declared.sum.SumValue.{SumValue}
use Rattle.paths.specs.Objectives.{Objective, minsum, minmax, maxmin, value, NoWorse, sum, greatest, least, least_of}
use Rattle.roads.specs.declared.road.Road.{Road}
use Rattle.trips.specs.Plans.{Drives}
use Rattle.trips.specs.Trips.{Use, onto, worth}
use Rattle.classical.specs.Values.{ValueFor, meaning_for, IsNumber}
use Rattle.classical.proofs.Trips.{path_of, marks_of, marks_are}

sum_onto : (c : ℕ) (x : SumValue) (us : List Use) → (onto (sum_meaning c) x us).total ≡ x.total + sum (marks_of c us)
sum_onto c x [] = omega arith
sum_onto c x (u ∷ us) = omega (arith, sum_onto c ((sum_meaning c).join x ((sum_meaning c).value u.marks)) us)

peak_onto : (c n : ℕ) (us : List Use) → onto (peak_meaning c) (peak.Mark n) us ≡ peak.Mark (max n (greatest (marks_of c us)))
peak_onto c n [] = ap peak.Mark (omega arith)
peak_onto c n (u ∷ us) = peak_onto c (max n (get_or u.marks c 0)) us ∙ ap peak.Mark (omega arith)

least_min : (n y : ℕ) (ys : List ℕ) → least_of (min n y) ys ≡ min n (least_of y ys)
least_min n y [] = refl
least_min n y (z ∷ ys) = omega arith

limit_onto : (c n : ℕ) (us : List Use) → onto (limit_meaning c) (limit.Mark n) us ≡ limit.Mark (least_of n (marks_of c us))
limit_onto c n [] = refl
limit_onto c n (u ∷ us) = limit_onto c (min n (get_or u.marks c 0)) us ∙ ap limit.Mark (least_min n (get_or u.marks c 0) (marks_of c us))

-- a sum is that of any trip, also of an empty one
pub sum_number : (c : ℕ) (roads : List Road) (s : ℕ) (us : List Use) (e : ℕ) → Drives roads s us e → (worth (sum_meaning c) us).total ≡ value (minsum c) roads (path_of us)
unfolding worth
sum_number c roads s us e h = omega (arith, sum_onto c (record { total = 0 }) us, ap sum (marks_are roads c s us e h))

-- the value of a trip to another place
pub number : (o : Objective) (roads : List Road) (s : ℕ) (us : List Use) (e : ℕ) → (s ≡ e → ⊥) → Drives roads s us e → IsNumber o (worth (meaning_for o) us) (value o roads (path_of us))
unfolding worth
number (minsum c) roads s us e far h = sum_number c roads s us e h
number (minmax c) roads s [] e far h = absurd (far h)
number (minmax c) roads s (u ∷ us) e far h = peak_onto c (get_or u.marks c 0) us ∙ ap (λ o. peak.Mark (greatest o)) (marks_are roads c s (u ∷ us) e h)
number (maxmin c) roads s [] e far h = absurd (far h)
number (maxmin c) roads s (u ∷ us) e far h = limit_onto c (get_or u.marks c 0) us ∙ ap (λ o. limit.Mark (least o)) (marks_are roads c s (u ∷ us) e h)

-- values that are numbers are in the order of the numbers
pub good_no_worse : (o : Objective) (v w : ValueFor o) (m n : ℕ) → IsNumber o v m → IsNumber o w n → (meaning_for o).good v w → NoWorse o m n
good_no_worse (minsum c) v w m n e f g = omega arith
good_no_worse (minmax c) v w m n e f g = subst (λ x. (peak_meaning c).good (peak.Mark m) x) f (subst (λ x. (peak_meaning c).good x w) e g)
good_no_worse (maxmin c) v w m n e f g = subst (λ x. (limit_meaning c).good (limit.Mark m) x) f (subst (λ x. (limit_meaning c).good x w) e g)

pub no_worse_good : (o : Objective) (v w : ValueFor o) (m n : ℕ) → IsNumber o v m → IsNumber o w n → NoWorse o m n → (meaning_for o).good v w
no_worse_good (minsum c) v w m n e f g = omega arith
no_worse_good (minmax c) v w m n e f g = subst (λ x. (peak_meaning c).good x w) (sym e) (subst (λ x. (peak_meaning c).good (peak.Mark m) x) (sym f) g)
no_worse_good (maxmin c) v w m n e f g = subst (λ x. (limit_meaning c).good x w) (sym e) (subst (λ x. (limit_meaning c).good (limit.Mark m) x) (sym f) g)
