-- The first and the last pair of the page of a sweep are lexicographic minima.
use Rattle.std.proofs.Common.{◌≡◌, ℕ, ◌-◌, List, [], ◌∷◌, ◌++◌, length, sym, refl, ap, ◌∙◌, subst}
use Rattle.criteria.specs.Lexical.{lexical_meaning}
use Rattle.criteria.specs.Meaning.{Meaning, Order}
use Rattle.criteria.specs.Peak.{peak_meaning}
use Rattle.criteria.specs.Sum.{sum_meaning}
use Rattle.criteria.specs.declared.lexical.LexicalValue.{LexicalValue}
use Rattle.criteria.specs.declared.peak.PeakValue.{PeakValue}
use Rattle.criteria.specs.declared.peak.PeakValue.TheVariants.{Mark}
use Rattle.criteria.specs.declared.sum.SumValue.{SumValue}
use Rattle.criteria.specs.LexicalLaws.{lexical_order}
use Rattle.paths.specs.Lexicographic.{Lexmin}
use Rattle.paths.specs.Objectives.{Objective, minsum, minmax, value}
use Rattle.roads.specs.declared.road.Road.{Road}
use Rattle.trips.specs.Pages.{Page, PairAt}
use Rattle.trips.specs.Plans.{swept}
use Rattle.classical.specs.Lexmins.{LeastSums, LeastSumsThenPeak, LeastPeakThenSums}
use Rattle.classical.proofs.Ends.{first_is_best, last_is_best}
use Rattle.classical.proofs.Minimised.{Vector, sum_shown, peak_shown}
use Rattle.classical.proofs.Numbers.{number}
use Rattle.classical.proofs.Orders.{sum_order, peak_order}
use Rattle.classical.proofs.Shown.{Shown, Both, worth_lexical, best_is_lexmin, lexical_shown}
use Rattle.classical.proofs.Trips.{path_of}

module _ {V W : Type 0} {a : Meaning V} {b : Meaning W} {roads : List Road} {s e : ℕ} {os ps : List Objective} {I : V → List ℕ → Type 0} {J : W → List ℕ → Type 0} (shown_a : Shown roads s e a os I) (shown_b : Shown roads s e b ps J) {places : ℕ} {pairs : List (V × W)} (page : Page a b (swept places roads s) e pairs) (p : V × W) (xs ys : List ℕ) (is : I p.0 xs) (is' : J p.1 ys) where
  -- the first pair has the least values for the first criterion's objectives and then the second's
  pub first_lexmin : Order a → PairAt a b pairs 0 p → Lexmin (os ++ ps) roads s e (xs ++ ys)
  first_lexmin order here =
      let (us, (goes, worth_p)) = page.sound 0 p here in
      best_is_lexmin roads s e (lexical_shown shown_a shown_b) (record { first = p.0; second = p.1 }) (xs ++ ys)
      (record { xs = xs; ys = ys; first = is; second = is'; are = refl })
      us
      goes
      (ap (λ (o : V × W). record { first = o.0; second = o.1 }) worth_p ∙ sym (worth_lexical a b us))
      (λ vs there. subst ((lexical_meaning a b).good (record { first = p.0; second = p.1 })) (sym (worth_lexical a b vs)) (first_is_best order (swept places roads s) e pairs p vs page here there))

  -- the last has the least for the second's and then the first's
  pub last_lexmin : Order b → PairAt a b pairs (length pairs - 1) p → Lexmin (ps ++ os) roads s e (ys ++ xs)
  last_lexmin order here =
      let (us, (goes, worth_p)) = page.sound (length pairs - 1) p here in
      best_is_lexmin roads s e (lexical_shown shown_b shown_a) (record { first = p.1; second = p.0 }) (ys ++ xs)
      (record { xs = ys; ys = xs; first = is'; second = is; are = refl })
      us
      goes
      (ap (λ (o : V × W). record { first = o.1; second = o.0 }) worth_p ∙ sym (worth_lexical b a us))
      (λ vs there. subst ((lexical_meaning b a).good (record { first = p.1; second = p.0 })) (sym (worth_lexical b a vs)) (last_is_best order (swept places roads s) e pairs p vs page here there))

-- the vector of a sum
sum_vector : (c : ℕ) (v : SumValue) → Vector (minsum c) v (v.total ∷ [])
sum_vector c v = record { number = v.total; is = refl; are = refl }

sums_vector : (c t : ℕ) (v : LexicalValue SumValue SumValue) → Both (Vector (minsum c)) (Vector (minsum t)) v (v.first.total ∷ v.second.total ∷ [])
sums_vector c t v = record {
  xs = v.first.total ∷ [];
  ys = v.second.total ∷ [];
  first = sum_vector c v.first;
  second = sum_vector t v.second;
  are = refl;
}

peak_vector : (b n : ℕ) (v : PeakValue) → v ≡ Mark n → Vector (minmax b) v (n ∷ [])
peak_vector b n v e = record { number = n; is = e; are = refl }

pub first_sums : (c t : ℕ) (places : ℕ) (roads : List Road) (s e : ℕ) (pairs : List (SumValue × SumValue)) → Page (sum_meaning c) (sum_meaning t) (swept places roads s) e pairs → (p : SumValue × SumValue) → PairAt (sum_meaning c) (sum_meaning t) pairs 0 p → LeastSums c t roads s e p
first_sums c t places roads s e pairs page p here =
    first_lexmin (sum_shown c roads s e) (sum_shown t roads s e) page p (p.0.total ∷ []) (p.1.total ∷ []) (sum_vector c p.0) (sum_vector t p.1) (sum_order c) here

module _ (c t b : ℕ) (places : ℕ) (roads : List Road) (s e : ℕ) (far : s ≡ e → ⊥) (pairs : List (LexicalValue SumValue SumValue × PeakValue)) (page : Page (lexical_meaning (sum_meaning c) (sum_meaning t)) (peak_meaning b) (swept places roads s) e pairs) where
  -- the peak of a pair is a mark
  mark_there : (i : ℕ) (p : LexicalValue SumValue SumValue × PeakValue) → PairAt (lexical_meaning (sum_meaning c) (sum_meaning t)) (peak_meaning b) pairs i p → (n : ℕ) × (p.1 ≡ Mark n)
  mark_there i p here =
      let (us, (goes, is)) = page.sound i p here in
      (value (minmax b) roads (path_of us), ap (λ (o : LexicalValue SumValue SumValue × PeakValue). o.1) is ∙ number (minmax b) roads s us e far goes)

  pub first_sums_then_peak : (p : LexicalValue SumValue SumValue × PeakValue) → PairAt (lexical_meaning (sum_meaning c) (sum_meaning t)) (peak_meaning b) pairs 0 p → LeastSumsThenPeak c t b roads s e p
  first_sums_then_peak p here =
      let (n, is) = mark_there 0 p here in
      (n, (is, first_lexmin (lexical_shown (sum_shown c roads s e) (sum_shown t roads s e)) (peak_shown b roads s e far) page p (p.0.first.total ∷ p.0.second.total ∷ []) (n ∷ []) (sums_vector c t p.0) (peak_vector b n p.1 is) (lexical_order (sum_meaning c) (sum_meaning t) (sum_order c) (sum_order t)) here))

  pub last_peak_then_sums : (p : LexicalValue SumValue SumValue × PeakValue) → PairAt (lexical_meaning (sum_meaning c) (sum_meaning t)) (peak_meaning b) pairs (length pairs - 1) p → LeastPeakThenSums c t b roads s e p
  last_peak_then_sums p here =
      let (n, is) = mark_there (length pairs - 1) p here in
      (n, (is, last_lexmin (lexical_shown (sum_shown c roads s e) (sum_shown t roads s e)) (peak_shown b roads s e far) page p (p.0.first.total ∷ p.0.second.total ∷ []) (n ∷ []) (sums_vector c t p.0) (peak_vector b n p.1 is) (peak_order b) here))
