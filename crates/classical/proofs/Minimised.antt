-- The criterion of an objective that wants a small number stands for vectors of that number.
use Rattle.std.proofs.Common.{◌≡◌, ℕ, ◌<◌, ◌≤◌, List, [], ◌∷◌, sym, refl, ap, ◌∙◌, subst, inl, inr, ⊎_elim, arith}
use Rattle.std.proofs.lemmas.Bool.{cases_lt}
use Rattle.paths.specs.Lexicographic.{LexAtMost}
use Rattle.paths.specs.Objectives.{Objective, minsum, minmax, maxmin, value, NoWorse}
use Rattle.paths.proofs.Lexicographic.{LexLess}
use Rattle.roads.specs.declared.road.Road.{Road}
use Rattle.trips.specs.Plans.{Drives}
use Rattle.trips.specs.Trips.{Use, worth}
use Rattle.classical.specs.Values.{ValueFor, meaning_for, IsNumber}
use Rattle.classical.proofs.Numbers.{number, sum_number, good_no_worse, no_worse_good}
use Rattle.classical.proofs.Shown.{Shown}
use Rattle.classical.proofs.Trips.{path_of}

-- the less, the better
abbrev pub Minimised : Objective → Type 0
Minimised (minsum column) = Unit {0}
Minimised (minmax column) = Unit {0}
Minimised (maxmin column) = ⊥

no_worse_less : (o : Objective) → Minimised o → (m n : ℕ) → NoWorse o m n → m ≤ n
no_worse_less (minsum column) small m n h = h
no_worse_less (minmax column) small m n h = h
no_worse_less (maxmin column) small m n h = absurd small

less_no_worse : (o : Objective) → Minimised o → (m n : ℕ) → m ≤ n → NoWorse o m n
less_no_worse (minsum column) small m n h = h
less_no_worse (minmax column) small m n h = h
less_no_worse (maxmin column) small m n h = absurd small

one_number : (o : Objective) (v : ValueFor o) (m n : ℕ) → IsNumber o v m → IsNumber o v n → m ≡ n
one_number (minsum column) v m n h k = omega arith
one_number (minmax column) v m n h k = cc
one_number (maxmin column) v m n h k = cc

-- the vector of a value that is a number
pub record Vector (o : Objective) (v : ValueFor o) (xs : List ℕ) : Type 0 where
  pub number : ℕ
  pub is : IsNumber o v number
  pub are : xs ≡ number ∷ []

-- vectors of one number are in its order
one_at_most : {m n : ℕ} {xs ys : List ℕ} → xs ≡ m ∷ [] → ys ≡ n ∷ [] → m ≤ n → LexAtMost xs ys
one_at_most {m} {n} {xs} e f le =
    let ones : LexAtMost (m ∷ []) (n ∷ []) = ⊎_elim inl (λ ge. inr (omega arith, tt)) (cases_lt m n) in
    subst (LexAtMost xs) (sym f) (subst (λ o. LexAtMost o (n ∷ [])) (sym e) ones)

one_less : {m n : ℕ} {xs ys : List ℕ} → xs ≡ m ∷ [] → ys ≡ n ∷ [] → m < n → LexLess xs ys
one_less {m} {n} {xs} e f lt =
    let ones : LexLess (m ∷ []) (n ∷ []) = inl lt in
    subst (LexLess xs) (sym f) (subst (λ o. LexLess o (n ∷ [])) (sym e) ones)

pub minimised_shown : (o : Objective) → Minimised o → (roads : List Road) (s e : ℕ) → ((us : List Use) → Drives roads s us e → IsNumber o (worth (meaning_for o) us) (value o roads (path_of us))) → Shown roads s e (meaning_for o) (o ∷ []) (Vector o)
minimised_shown o small roads s e trips = record {
  trips = λ us goes. record { number = value o roads (path_of us); is = trips us goes; are = refl };
  one = λ v xs ys h k. h.are ∙ ap (λ n. n ∷ []) (one_number o v h.number k.number h.is k.is) ∙ sym k.are;
  at_most = λ v w xs ys h k g.
      one_at_most h.are k.are (no_worse_less o small h.number k.number (good_no_worse o v w h.number k.number h.is k.is g));
  less = λ v w xs ys h k ahead.
      one_less h.are k.are
      (⊎_elim
      (λ lt. lt)
      (λ ge. absurd (ahead.apart (no_worse_good o w v k.number h.number k.is h.is (less_no_worse o small k.number h.number ge))))
      (cases_lt h.number k.number));
}

-- Sum for all trips, and Peak for those to another place
pub sum_shown : (c : ℕ) (roads : List Road) (s e : ℕ) → Shown roads s e (meaning_for (minsum c)) (minsum c ∷ []) (Vector (minsum c))
sum_shown c roads s e = minimised_shown (minsum c) tt roads s e (λ us goes. sum_number c roads s us e goes)

pub peak_shown : (c : ℕ) (roads : List Road) (s e : ℕ) → (s ≡ e → ⊥) → Shown roads s e (meaning_for (minmax c)) (minmax c ∷ []) (Vector (minmax c))
peak_shown c roads s e far = minimised_shown (minmax c) tt roads s e (λ us goes. number (minmax c) roads s us e far goes)
