-- The pages of a pool and of a series, from those of their parts.
use Rattle.std.proofs.Common.{◌≡◌, ℕ, List, ◌++◌, sym, refl, ap, ◌∙◌, subst, inl, inr, ⊎_elim}
use Rattle.criteria.specs.Covers.{Covers}
use Rattle.criteria.specs.Meaning.{Meaning, Laws}
use Rattle.trips.specs.Pages.{Page}
use Rattle.trips.specs.Plans.{Plan, series, pool, origin, Goes}
use Rattle.trips.specs.Thinned.{Thinned, OfEither, OfBoth, PoolPage, SeriesPage}
use Rattle.trips.specs.Trips.{Use, worths}
use Rattle.trips.specs.Worths.{pair_join}
use Rattle.trips.proofs.Orders.{covers_trans, covers_joins}
use Rattle.trips.proofs.Worths.{worths_of_both}

module _ {V W : Type 0} {a : Meaning V} {b : Meaning W} (la : Laws a) (lb : Laws b) where
  -- the pair z is that of a trip of P that ends at p
  abbrev TripOf : Plan → ℕ → V × W → Type 0
  TripOf P p z = (us : List Use) × (Goes P us p × (z ≡ worths a b us))

  -- a candidate covers the trip us
  abbrev Covering : (V × W → Type 0) → List Use → Type 0
  Covering Candidate us = (z : V × W) × (Candidate z × Covers a b z (worths a b us))

  -- candidates that are pairs of a plan's trips, and of which one covers each of its trips, make its page once they are thinned
  pub thinned_page : (P : Plan) (p : ℕ) (Candidate : V × W → Type 0) (zs : List (V × W)) → ((z : V × W) → Candidate z → TripOf P p z) → ((us : List Use) → Goes P us p → Covering Candidate us) → Thinned a b Candidate zs → Page a b P p zs
  thinned_page P p Candidate zs sound whole thin = record {
    sound = λ i z h. sound z (thin.sound i z h);
    whole = λ us goes.
        let (z, (candidate, c)) = whole us goes in
        let (i, (q, (h, d))) = thin.whole z candidate in
        (i, (q, (h, covers_trans la lb q z (worths a b us) d c)));
    ordered = thin.ordered;
  }

  module _ (P Q : Plan) (p : ℕ) (xs ys : List (V × W)) (start : origin P ≡ origin Q) (left : Page a b P p xs) (right : Page a b Q p ys) where
    pool_sound : (z : V × W) → OfEither a b xs ys z → TripOf (pool P Q) p z
    pool_sound z =
        ⊎_elim
        (λ (i, h). let (us, (goes, e)) = left.sound i z h in (us, ((start, inl goes), e)))
        (λ (i, h). let (us, (goes, e)) = right.sound i z h in (us, ((start, inr goes), e)))

    pool_whole : (us : List Use) → Goes (pool P Q) us p → Covering (OfEither a b xs ys) us
    pool_whole us (_, either) =
        ⊎_elim
        (λ goes. let (i, (z, (h, c))) = left.whole us goes in (z, (inl (i, h), c)))
        (λ goes. let (i, (z, (h, c))) = right.whole us goes in (z, (inr (i, h), c)))
        either

  pub pool_page : PoolPage a b
  pool_page P Q p xs ys zs start left right =
      thinned_page (pool P Q) p (OfEither a b xs ys) zs (pool_sound P Q p xs ys start left right) (pool_whole P Q p xs ys start left right)

  module _ (P Q : Plan) (p : ℕ) (xs ys : List (V × W)) (left : Page a b P (origin Q) xs) (right : Page a b Q p ys) where
    series_sound : (z : V × W) → OfBoth a b xs ys z → TripOf (series P Q) p z
    series_sound z both =
        let (us, (goes, e)) = left.sound both.i both.left both.in_left in
        let (vs, (there, f)) = right.sound both.j both.right both.in_right in
        let same = both.joined ∙ (λ k. pair_join a b (e k) (f k)) ∙ sym (worths_of_both la lb us vs) in
        (us ++ vs, ((us, (vs, (refl, goes, there))), same))

    series_whole : (us : List Use) → Goes (series P Q) us p → Covering (OfBoth a b xs ys) us
    series_whole us (x, (y, (is, goes, there))) =
        let (i, (v, (h, c))) = left.whole x goes in
        let (j, (w, (k, d))) = right.whole y there in
        let join = pair_join a b v w in
        let both : OfBoth a b xs ys join = record { i = i; j = j; left = v; right = w; in_left = h; in_right = k; joined = refl } in
        let same = ap (worths a b) is ∙ worths_of_both la lb x y in
        (join, (both, subst (Covers a b join) (sym same) (covers_joins la lb v (worths a b x) w (worths a b y) c d)))

  pub series_page : SeriesPage a b
  series_page P Q p xs ys zs left right =
      thinned_page (series P Q) p (OfBoth a b xs ys) zs (series_sound P Q p xs ys left right) (series_whole P Q p xs ys left right)
