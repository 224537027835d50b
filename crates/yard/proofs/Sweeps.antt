-- The table of the yard.
use Rattle.std.proofs.Common.{◌≡◌, ℕ, zero, suc, Bool, true, false, ◌&&◌, List, [], ◌∷◌, refl, subst, lit<, rules}
use Rattle.criteria.specs.Limit.{limit_meaning}
use Rattle.criteria.specs.Peak.{peak_meaning}
use Rattle.criteria.specs.Sum.{sum_meaning}
use Rattle.criteria.specs.declared.limit.LimitValue.{LimitValue}
use Rattle.criteria.specs.declared.sum.SumValue.{SumValue}
use Rattle.trips.specs.Pages.{Page}
use Rattle.trips.proofs.Thinned.{series_page, pool_page}
use Rattle.yard.specs.Network.{yard_roads, roads_with, sweep_from, round_trip, all_together}
use Rattle.yard.specs.Table.{timed, listed, Table}
use Rattle.yard.proofs.Judges.{Judge, sum_test, sum_judge, limit_test, limit_judge, peak_test, peak_judge}
use Rattle.yard.proofs.Tested.{page, tested}
use Rattle.yard.proofs.Thinned.{joins_test, joins_thinned, both_test, both_thinned}

-- time is the sum of mark 0
pub time : Judge (sum_meaning 0) sum_test
time = sum_judge 0 (lit< tt)

-- cost is the sum of mark 1
cost : Judge (sum_meaning 1) sum_test
cost = sum_judge 1 (lit< tt)

-- load is the limit of mark 2
pub load : Judge (limit_meaning 2) limit_test
load = limit_judge 2

-- grade is the peak of mark 3
grade : Judge (peak_meaning 3) peak_test
grade = peak_judge 3

-- a trip for each pair, by place: by time and load from place 0
abbrev quick : List (List (List ℕ))
quick = ([] ∷ []) ∷ ((0 ∷ []) ∷ []) ∷ ((0 ∷ 5 ∷ []) ∷ []) ∷ ((0 ∷ 1 ∷ []) ∷ (0 ∷ 5 ∷ 3 ∷ []) ∷ (4 ∷ []) ∷ []) ∷ []

-- by time and cost
abbrev cheap : List (List (List ℕ))
cheap = ([] ∷ []) ∷ ((0 ∷ []) ∷ []) ∷ ((0 ∷ 5 ∷ []) ∷ (2 ∷ []) ∷ []) ∷ ((0 ∷ 1 ∷ []) ∷ (0 ∷ 5 ∷ 3 ∷ []) ∷ (2 ∷ 3 ∷ []) ∷ (4 ∷ []) ∷ []) ∷ []

-- by load and grade
abbrev gentle : List (List (List ℕ))
gentle = ([] ∷ []) ∷ ((0 ∷ []) ∷ []) ∷ ((0 ∷ 5 ∷ []) ∷ []) ∷ ((4 ∷ []) ∷ (0 ∷ 5 ∷ 3 ∷ []) ∷ []) ∷ []

-- by time and load while road 1 is shut
abbrev detours : List (List (List ℕ))
detours = ([] ∷ []) ∷ ((0 ∷ []) ∷ []) ∷ ((0 ∷ 5 ∷ []) ∷ []) ∷ ((0 ∷ 5 ∷ 3 ∷ []) ∷ (4 ∷ []) ∷ []) ∷ []

-- by time and load from place 3
abbrev returning : List (List (List ℕ))
returning = ((6 ∷ []) ∷ []) ∷ ((6 ∷ 0 ∷ []) ∷ []) ∷ ((6 ∷ 0 ∷ 5 ∷ []) ∷ []) ∷ ([] ∷ []) ∷ []

listed_is : (p : ℕ) → page time load yard_roads 0 quick p ≡ listed p
listed_is zero = refl
listed_is (suc zero) = refl
listed_is (suc (suc zero)) = refl
listed_is (suc (suc (suc zero))) = refl
listed_is (suc (suc (suc (suc p)))) = refl

pub listed_pages : (p : ℕ) → Page (sum_meaning 0) (limit_meaning 2) (sweep_from 0) p (listed p)
listed_pages p = subst (Page (sum_meaning 0) (limit_meaning 2) (sweep_from 0) p) (listed_is p) (tested time load yard_roads 0 4 quick refl p)

cost_pages : (p : ℕ) → Page (sum_meaning 0) (sum_meaning 1) (sweep_from 0) p (page time cost yard_roads 0 cheap p)
cost_pages = tested time cost yard_roads 0 4 cheap refl

return_pages : (p : ℕ) → Page (sum_meaning 0) (limit_meaning 2) (sweep_from 3) p (page time load yard_roads 3 returning p)
return_pages = tested time load yard_roads 3 4 returning refl

-- a test that every place passes: the four of the yard, and those behind them
each_place : (ok : ℕ → Bool) → (ok 0 && (ok 1 && (ok 2 && ok 3))) ≡ true → ((p : ℕ) → ok (suc (suc (suc (suc p)))) ≡ true) → (p : ℕ) → ok p ≡ true
each_place ok t rest zero = search rules
each_place ok t rest (suc zero) = search rules
each_place ok t rest (suc (suc zero)) = search rules
each_place ok t rest (suc (suc (suc zero))) = search rules
each_place ok t rest (suc (suc (suc (suc p)))) = rest p

-- what the sweeps from places 0 and 3 in series list at each place
abbrev round : ℕ → List (SumValue × LimitValue)
round zero = timed 32 200 ∷ timed 37 300 ∷ timed 52 500 ∷ []
round (suc zero) = timed 42 200 ∷ timed 47 300 ∷ timed 62 400 ∷ []
round (suc (suc zero)) = timed 42 200 ∷ timed 47 300 ∷ timed 62 400 ∷ []
round (suc (suc (suc zero))) = listed 3
round (suc (suc (suc (suc p)))) = []

round_pages : (p : ℕ) → Page (sum_meaning 0) (limit_meaning 2) round_trip p (round p)
round_pages p =
    let back = page time load yard_roads 3 returning in
    series_page time.laws load.laws (sweep_from 0) (sweep_from 3) p (listed 3) (back p) (round p) (listed_pages 3) (return_pages p)
    (joins_thinned time load (listed 3) (back p) (round p) (each_place (λ q. joins_test time load (listed 3) (back q) (round q)) refl (λ q. refl) p))

pooled_pages : (p : ℕ) → Page (sum_meaning 0) (limit_meaning 2) all_together p (listed p)
pooled_pages p =
    pool_page time.laws load.laws (sweep_from 0) round_trip p (listed p) (round p) (listed p) refl (listed_pages p) (round_pages p)
    (both_thinned time load (listed p) (round p) (listed p) (each_place (λ q. both_test time load (listed q) (round q) (listed q)) refl (λ q. refl) p))

pub table : Table
table = record {
  pages = listed_pages;
  six = record { pages = listed; each = λ p _. listed_pages p; count = refl };
  costs = cost_pages 3;
  eight = record { pages = page time cost yard_roads 0 cheap; each = λ p _. cost_pages p; count = refl };
  grades = tested load grade yard_roads 0 4 gentle refl 3;
  shut = tested time load (roads_with false) 0 4 detours refl 3;
  back = round_pages 0;
  twelve = record { pages = round; each = λ p _. round_pages p; count = refl };
  six_roads = refl;
  one_origin = refl;
  pooled = pooled_pages;
}
