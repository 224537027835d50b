-- Two groupings of one list of plans have the same trips.
use Rattle.std.proofs.Common.{◌≡◌, ℕ, List, [], ◌∷◌, ◌++◌, sym, refl, ap, ◌∙◌, subst}
use Rattle.std.proofs.lemmas.List.{append-nil, append_assoc}
use Rattle.criteria.specs.Meaning.{Meaning, Laws}
use Rattle.trips.specs.Groupings.{Grouping, sole, parted, RegroupedTrips, RegroupedPage}
use Rattle.trips.specs.Plans.{Plan, origin, Goes}
use Rattle.trips.specs.Trips.{Use}
use Rattle.trips.proofs.Pages.{same_trips, same_page}

-- where the trips of plans in series start, if they end at e
abbrev start : List Plan → ℕ → ℕ
start [] e = e
start (p ∷ plans) e = origin p

-- the trips of plans in series that end at e: one of each, in order
abbrev Through : List Plan → List Use → ℕ → Type 0
Through [] us e = us ≡ []
Through (p ∷ plans) us e = (x : List Use) × ((y : List Use) × ((us ≡ x ++ y) × Goes p x (start plans e) × Through plans y e))

start_both : (front back : List Plan) (e : ℕ) → start (front ++ back) e ≡ start front (start back e)
start_both [] back e = refl
start_both (p ∷ front) back e = refl

through_both : (front back : List Plan) (x y : List Use) (e : ℕ) → Through front x (start back e) → Through back y e → Through (front ++ back) (x ++ y) e
through_both [] back x y e is h = subst (λ us. Through back (us ++ y) e) (sym is) h
through_both (p ∷ front) back x y e (v, (w, (is, goes, rest))) h =
    (v, (w ++ y, (ap (λ us. us ++ y) is ∙ append_assoc v w y, subst (Goes p v) (sym (start_both front back e)) goes, through_both front back w y e rest h)))

through_parts : (front back : List Plan) (us : List Use) (e : ℕ) → Through (front ++ back) us e → (x : List Use) × ((y : List Use) × ((us ≡ x ++ y) × Through front x (start back e) × Through back y e))
through_parts [] back us e h = ([], (us, (refl, refl, h)))
through_parts (p ∷ front) back us e (v, (w, (is, goes, rest))) =
    let (x, (y, (f, h, k))) = through_parts front back w e rest in
    (v ++ x, (y, (is ∙ ap (λ o. v ++ o) f ∙ sym (append_assoc v x y), (v, (x, (refl, subst (Goes p v) (start_both front back e) goes, h))), k)))

grouping_start : (plans : List Plan) (p : Plan) → Grouping plans p → (e : ℕ) → origin p ≡ start plans e
grouping_start plans p (sole q) e = refl
grouping_start plans p (parted ps front back q r is g h) e =
    grouping_start front q g (start back e) ∙ sym (start_both front back e) ∙ ap (λ o. start o e) (sym is)

goes_through : (plans : List Plan) (p : Plan) → Grouping plans p → (us : List Use) (e : ℕ) → Goes p us e → Through plans us e
goes_through plans p (sole q) us e goes = (us, ([], (sym (append-nil us), goes, refl)))
goes_through plans p (parted ps front back q r is g h) us e (x, (y, (f, goes, there))) =
    let left = goes_through front q g x (start back e) (subst (Goes q x) (grouping_start back r h e) goes) in
    let right = goes_through back r h y e there in
    subst (λ o. Through o us e) (sym is) (subst (λ o. Through (front ++ back) o e) (sym f) (through_both front back x y e left right))

through_goes : (plans : List Plan) (p : Plan) → Grouping plans p → (us : List Use) (e : ℕ) → Through plans us e → Goes p us e
through_goes plans p (sole q) us e (x, (y, (is, goes, none))) = subst (λ o. Goes q o e) (sym (is ∙ ap (λ o. x ++ o) none ∙ append-nil x)) goes
through_goes plans p (parted ps front back q r is g h) us e t =
    let (x, (y, (f, left, right))) = through_parts front back us e (subst (λ o. Through o us e) is t) in
    (x, (y, (f, subst (Goes q x) (sym (grouping_start back r h e)) (through_goes front q g x (start back e) left), through_goes back r h y e right)))

pub regrouped_trips : RegroupedTrips
regrouped_trips plans p q g h us e goes = through_goes plans q h us e (goes_through plans p g us e goes)

pub regrouped_page : {V W : Type 0} {a : Meaning V} {b : Meaning W} → Laws a → Laws b → RegroupedPage a b
regrouped_page la lb plans p q g h e xs ys =
    same_page la lb p q e e xs ys (same_trips p q e e (λ us. regrouped_trips plans p q g h us e) (λ us. regrouped_trips plans q p h g us e))
