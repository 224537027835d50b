-- The pairs of a page are exactly the efficient ones.
use Rattle.std.proofs.Common.{ℕ, List, sym, ◌∙◌, subst}
use Rattle.criteria.specs.Covers.{Covers}
use Rattle.criteria.specs.Meaning.{Meaning, Laws}
use Rattle.trips.specs.Efficient.{Efficient, PagesAreEfficient}
use Rattle.trips.specs.Pages.{Page, PairAt}
use Rattle.trips.specs.Plans.{Plan}
use Rattle.trips.specs.Trips.{worths}
use Rattle.trips.proofs.Orders.{covers_from, covers_trans, covers_both}
use Rattle.trips.proofs.Pages.{page_apart}

module _ {V W : Type 0} {a : Meaning V} {b : Meaning W} (la : Laws a) (lb : Laws b) where
  pub efficient_on_page : (plan : Plan) (place : ℕ) (pairs : List (V × W)) → Page a b plan place pairs → (p : V × W) → Efficient a b plan place p → (i : ℕ) × PairAt a b pairs i p
  efficient_on_page plan place pairs page p here =
      let (us, (goes, e)) = here.some in
      let (i, (q, (h, c))) = page.whole us goes in
      let (vs, (there, f)) = page.sound i q h in
      let d = covers_trans la lb q (worths a b us) p c (covers_from la lb (sym e)) in
      (i, subst (λ o. PairAt a b pairs i o) (f ∙ here.best vs there (subst (λ o. Covers a b o p) f d)) h)

  pub page_efficient : (plan : Plan) (place : ℕ) (pairs : List (V × W)) → Page a b plan place pairs → (i : ℕ) (p : V × W) → PairAt a b pairs i p → Efficient a b plan place p
  page_efficient plan place pairs page i p h = record {
    some = page.sound i p h;
    best = λ us goes c.
        let (j, (q, (k, d))) = page.whole us goes in
        let e = page_apart plan place pairs page j i q p k h (covers_trans la lb q (worths a b us) p d c) in
        covers_both la lb (worths a b us) p c (subst (λ o. Covers a b o (worths a b us)) e d);
  }

  pub pages_are_efficient : PagesAreEfficient a b
  pages_are_efficient plan place pairs page = record { all = efficient_on_page plan place pairs page; only = page_efficient plan place pairs page }
