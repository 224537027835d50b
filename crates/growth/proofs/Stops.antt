-- Trips with one use more at their end, and the places that they visit.
use Rattle.std.proofs.Common.{◌≡◌, ℕ, ◌<◌, List, [], ◌∷◌, ◌++◌, length, get_or, sym, refl, ap, ◌∙◌, subst, ⊎_elim, arith}
use Rattle.std.proofs.lemmas.List.{get_or_append_left, get_or_push, length_push}
use Rattle.std.proofs.lemmas.Bool.{cases_lt}
use Rattle.roads.specs.declared.road.Road.{Road}
use Rattle.trips.specs.Plans.{Drivable, Drives, Visits, Distinct}
use Rattle.trips.specs.Trips.{Use}

-- a use behind a trip makes a longer trip
pub drives_more : (roads : List Road) (s : ℕ) (us : List Use) (m : ℕ) (u : Use) (r : Road) → Drives roads s us m → Drivable roads m u r → Drives roads s (us ++ u ∷ []) r.end
drives_more roads s [] m u r h d = (r, (subst (λ x. Drivable roads x u r) (sym h) d, refl))
drives_more roads s (v ∷ us) m u r (q, (e, h)) d = (q, (e, drives_more roads q.end us m u r h d))

-- a use is of one road
pub drivable_one : (roads : List Road) (s : ℕ) (u : Use) (q r : Road) → Drivable roads s u q → Drivable roads s u r → q ≡ r
drivable_one roads s u q r d e = sym (d.numbered.1 q) ∙ e.numbered.1 q

-- which visits one place more
pub visits_more : (roads : List Road) (s : ℕ) (us : List Use) (m : ℕ) (stops : List ℕ) (u : Use) (r : Road) → Drives roads s us m → Visits roads s us stops → Drivable roads m u r → Visits roads s (us ++ u ∷ []) (stops ++ r.end ∷ [])
visits_more roads s [] m stops u r h v d = (r, (r.end ∷ [], (subst (λ x. Drivable roads x u r) (sym h) d, ap (λ l. l ++ r.end ∷ []) v, refl)))
visits_more roads s (w ∷ us) m stops u r (q, (e, h)) (q', (rest, (e', is, v))) d =
    let on = visits_more roads q.end us m rest u r h (subst (λ x. Visits roads x.end us rest) (drivable_one roads s w q' q e' e) v) d in
    (q, (rest ++ r.end ∷ [], (e, ap (λ l. l ++ r.end ∷ []) is, on)))

-- a place that was not visited yet
pub distinct_more : (ns : List ℕ) (n : ℕ) → Distinct ns → ((i : ℕ) → i < length ns → get_or ns i 0 ≡ n → ⊥) → Distinct (ns ++ n ∷ [])
distinct_more ns n h apart i j lt within e =
    let long = length_push ns n in
    let low_i : i < length ns = omega arith in
    let at_i : get_or (ns ++ n ∷ []) i 0 ≡ get_or ns i 0 = get_or_append_left ns (n ∷ []) 0 i low_i in
    ⊎_elim
    (λ low. h i j lt low (sym at_i ∙ e ∙ get_or_append_left ns (n ∷ []) 0 j low))
    (λ high. apart i low_i (sym at_i ∙ e ∙ get_or_push ns n 0 j (omega arith)))
    (cases_lt j (length ns))
