-- A page is unique.
use Rattle.std.proofs.Common.{◌≡◌, ℕ, List, sym, refl, ◌∙◌, subst, ⊎_elim}
use Rattle.std.proofs.lemmas.Bool.{cases_order}
use Rattle.criteria.specs.Covers.{Covers, Precedes}
use Rattle.criteria.specs.Meaning.{Meaning, Laws}
use Rattle.trips.specs.Pages.{Page, PairAt}
use Rattle.trips.specs.Plans.{Plan, Goes}
use Rattle.trips.specs.SamePages.{SamePairs, SamePage, UniquePage}
use Rattle.trips.specs.Trips.{Use, worths}
use Rattle.trips.proofs.Elements.{at_one}
use Rattle.trips.proofs.Orders.{covers_from, covers_trans, covers_both, uncovered_after, uncovered_before}
use Rattle.trips.proofs.SortedLists.{same_sorted}

module _ {V W : Type 0} {a : Meaning V} {b : Meaning W} where
  -- a pair of a page that covers another of it is the same
  pub page_apart : (P : Plan) (p : ℕ) (xs : List (V × W)) → Page a b P p xs → (i j : ℕ) (x y : V × W) → PairAt a b xs i x → PairAt a b xs j y → Covers a b x y → x ≡ y
  page_apart P p xs page i j x y h k c =
      ⊎_elim
      (λ e. at_one xs j x y (subst (λ n. PairAt a b xs n x) e h) k)
      (⊎_elim (λ lt. absurd (uncovered_after (page.ordered i j x y lt h k) c)) (λ gt. absurd (uncovered_before (page.ordered j i y x gt k h) c)))
      (cases_order i j)

  -- the same trips have the same pairs
  pub same_trips : (P Q : Plan) (p q : ℕ) → ((us : List Use) → Goes P us p → Goes Q us q) → ((us : List Use) → Goes Q us q → Goes P us p) → SamePairs a b P p Q q
  same_trips P Q p q there back = record { there = λ us goes. (us, (there us goes, refl)); back = λ us goes. (us, (back us goes, refl)) }

  module _ (la : Laws a) (lb : Laws b) where
    -- each pair of the one page stands on the other
    found : (P Q : Plan) (p q : ℕ) (xs ys : List (V × W)) → SamePairs a b P p Q q → Page a b P p xs → Page a b Q q ys → (i : ℕ) (x : V × W) → PairAt a b xs i x → (j : ℕ) × PairAt a b ys j x
    found P Q p q xs ys same left right i x h =
        let (us, (goes, worth_x)) = left.sound i x h in
        let (vs, (there, e)) = same.there us goes in
        let (j, (y, (k, c))) = right.whole vs there in
        let y_over_x = covers_trans la lb y (worths a b vs) x c (covers_from la lb (sym e ∙ sym worth_x)) in
        let (ws, (goes_y, worth_y)) = right.sound j y k in
        let (zs, (back, f)) = same.back ws goes_y in
        let (n, (z, (l, d))) = left.whole zs back in
        let z_over_y = covers_trans la lb z (worths a b zs) y d (covers_from la lb (sym f ∙ sym worth_y)) in
        let z_is_x = page_apart P p xs left n i z x l h (covers_trans la lb z y x z_over_y y_over_x) in
        let x_over_y = subst (λ o. Covers a b o y) z_is_x z_over_y in
        (j, subst (λ o. PairAt a b ys j o) (covers_both la lb y x y_over_x x_over_y) k)

    pub same_page : SamePage a b
    same_page P Q p q xs ys same left right =
        same_sorted
        (Precedes a b)
        (λ x y s t. s.first.apart t.first.better)
        xs
        ys
        left.ordered
        right.ordered
        (found P Q p q xs ys same left right)
        (found Q P q p ys xs (record { there = same.back; back = same.there }) right left)

    pub unique_page : UniquePage a b
    unique_page P p xs ys = same_page P P p p xs ys (same_trips P P p p (λ us goes. goes) (λ us goes. goes))
