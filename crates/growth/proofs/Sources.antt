-- Rows that grow by the best uncovered extension have their sources before them.
use Rattle.std.proofs.Common.{◌≡◌, ℕ, ◌+◌, List, [], ◌∷◌, ◌++◌, length, get_or, sym, ap, ◌∙◌, subst, ⊎_elim, arith, append_assoc, length-append}
use Rattle.criteria.specs.Meaning.{Meaning}
use Rattle.roads.specs.declared.road.Road.{Road}
use Rattle.rows.specs.declared.row.Row.{Row}
use Rattle.rows.specs.Places.{RowAt}
use Rattle.rows.specs.Sound.{Made}
use Rattle.growth.specs.Complete.{EmptyRow}
use Rattle.growth.specs.Growing.{Next}
use Rattle.growth.specs.Sourced.{Sourced}
use Rattle.growth.proofs.Tables.{at_left, at_behind, at_one, at_push, made_more}

module _ {V W : Type 0} (a : Meaning V) (b : Meaning W) where
  -- the row of the empty trip has no source to name
  pub sourced_first : (roads base origin : ℕ) (r : Row V W) → EmptyRow a b origin r → Sourced roads base (r ∷ [])
  sourced_first roads base origin r empty = record {
    each = λ front long i p (h, is).
        let zero_i : i ≡ 0 = omega arith in
        let e : p ≡ r = sym (is r) ∙ ap (λ k. get_or (r ∷ []) k r) zero_i in
        subst (Made roads (front ++ r ∷ []) (base + i) p.roads) (sym (ap (λ q. q.source) e ∙ empty.source)) (ap (λ q. q.roads) e ∙ empty.none);
  }

  -- the row to come names a row and a road that are there
  sourced_new : (roads : List Road) (base : ℕ) (rs front : List (Row V W)) (r : Row V W) → Next a b roads base rs r → length front ≡ base → Made (length roads) (front ++ (rs ++ r ∷ [])) (base + length rs) r.roads r.source
  sourced_new roads base rs front r n long =
      let f = n.fresh in
      let e = f.extends in
      subst (Made (length roads) (front ++ (rs ++ r ∷ [])) (base + length rs) r.roads) (sym e.source) (record {
        early = omega (arith, e.row.0);
        road = e.road.0;
        count = λ x at. e.longer ∙ ap (λ z. z.roads + 1) (at_one (front ++ (rs ++ r ∷ [])) (length front + f.index) f.row x (at_behind front (rs ++ r ∷ []) f.index f.row (at_left rs (r ∷ []) f.index f.row e.row)) (subst (λ m. RowAt (front ++ (rs ++ r ∷ [])) (m + f.index) x) (sym long) at));
      })

  -- so the rows with it behind them have theirs before them too
  pub sourced_next : (roads : List Road) (base : ℕ) (rs : List (Row V W)) (r : Row V W) → Sourced (length roads) base rs → Next a b roads base rs r → Sourced (length roads) base (rs ++ r ∷ [])
  sourced_next roads base rs r s n = record {
    each = λ front long i p at. ⊎_elim
        (λ old.
        subst (λ t. Made (length roads) t (base + i) p.roads p.source) (append_assoc front rs (r ∷ [])) (made_more (length roads) (front ++ rs) (r ∷ []) (base + i) p.roads p.source (omega (arith, old.0, length-append front rs)) (s.each front long i p old)))
        (λ (last, is). subst (λ j. Made (length roads) (front ++ (rs ++ r ∷ [])) (base + j) p.roads p.source) (sym last) (subst (λ q. Made (length roads) (front ++ (rs ++ r ∷ [])) (base + length rs) q.roads q.source) (sym is) (sourced_new roads base rs front r n long)))
        (at_push rs r i p at);
  }
