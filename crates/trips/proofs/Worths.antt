-- The value of two trips, one after the other.
use Rattle.std.proofs.Common.{◌≡◌, List, [], ◌∷◌, ◌++◌, sym, refl, ap, ◌∙◌}
use Rattle.criteria.specs.Meaning.{Meaning, Laws}
use Rattle.trips.specs.Trips.{Use, onto, worth, worths}
use Rattle.trips.specs.Worths.{WorthOfBoth, pair_join}

pub onto_both : {V : Type 0} (m : Meaning V) (x : V) (us vs : List Use) → onto m x (us ++ vs) ≡ onto m (onto m x us) vs
onto_both m x [] vs = refl
onto_both m x (u ∷ us) vs = onto_both m (m.join x (m.value u.marks)) us vs

-- a trip with one use more at its end
pub worth_more : {V : Type 0} (m : Meaning V) (us : List Use) (u : Use) → worth m (us ++ u ∷ []) ≡ m.join (worth m us) (m.value u.marks)
unfolding worth
worth_more m us u = onto_both m m.unit us (u ∷ [])

module _ {V : Type 0} {m : Meaning V} (laws : Laws m) where
  onto_join : (x y : V) (us : List Use) → onto m (m.join x y) us ≡ m.join x (onto m y us)
  onto_join x y [] = refl
  onto_join x y (u ∷ us) = ap (λ z. onto m z us) (laws.joins.assoc x y (m.value u.marks)) ∙ onto_join x (m.join y (m.value u.marks)) us

  pub worth_of_both : WorthOfBoth m
  unfolding worth
  worth_of_both x y =
      onto_both m m.unit x y
      ∙ ap (λ z. onto m z y) (sym (laws.joins.right (onto m m.unit x)))
      ∙ onto_join (onto m m.unit x) m.unit y

-- by two criteria
pub worths_of_both : {V W : Type 0} {a : Meaning V} {b : Meaning W} → Laws a → Laws b → (x y : List Use) → worths a b (x ++ y) ≡ pair_join a b (worths a b x) (worths a b y)
worths_of_both la lb x y = (λ i. (worth_of_both la x y i, worth_of_both lb x y i))
