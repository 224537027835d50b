-- The road table of a loaded file serves its network.
use Rattle.std.proofs.Common.{ℕ, zero, suc, ◌+◌, ◌<◌, List, [], ◌∷◌, ◌++◌, length, get_or, take, drop, sym, ap, ◌∙◌, subst, append_assoc, append-nil, arith, length-append}
use Rattle.std.proofs.lemmas.List.{get_or_append_left}
use Rattle.roadfile.specs.Format.{Entry, place, road, remark, finish}
use Rattle.roadfile.specs.Loading.{Addable, Whole, places_of, roads_of}
use Rattle.roadfile.proofs.Filling.{places_append}
use Rattle.roads.specs.Networks.{Serving}
use Rattle.roads.specs.Tables.{Within}
use Rattle.roads.specs.declared.network.Network.{Network}
use Rattle.roads.specs.declared.road.Road.{Road}

-- each of the entries could be added behind those before it
abbrev Adds : ℕ → List Entry → List Entry → Type 0
Adds room before es = (i : ℕ) (d : Entry) → i < length es → Addable room (before ++ take i es) (get_or es i d)

-- the entries behind the first
adds_rest : (room : ℕ) (before : List Entry) (e : Entry) (es : List Entry) → Adds room before (e ∷ es) → Adds room (before ++ e ∷ []) es
adds_rest room before e es h i d lt = subst (λ l. Addable room l (get_or es i d)) (sym (append_assoc before (e ∷ []) (take i es))) (h (suc i) d (omega arith))

-- the roads that they add name places that they, or those before them, add
within : (room : ℕ) (before es : List Entry) → Adds room before es → (j : ℕ) (d : Road) → j < length (roads_of es) → Within (places_of before + places_of es) (get_or (roads_of es) j d)
within room before [] h j d lt = absurd (omega arith)
within room before (place name ∷ es) h j d lt = subst (λ n. Within n (get_or (roads_of es) j d)) (omega (arith, places_append before (place name ∷ []))) (within room (before ++ place name ∷ []) es (adds_rest room before (place name) es h) j d lt)
within room before (remark x ∷ es) h j d lt = subst (λ n. Within n (get_or (roads_of es) j d)) (omega (arith, places_append before (remark x ∷ []))) (within room (before ++ remark x ∷ []) es (adds_rest room before (remark x) es h) j d lt)
within room before (finish ∷ es) h j d lt = subst (λ n. Within n (get_or (roads_of es) j d)) (omega (arith, places_append before (finish ∷ []))) (within room (before ++ finish ∷ []) es (adds_rest room before finish es h) j d lt)
within room before (road s e m ∷ es) h zero d lt =
    let (starts, ends, _, _) = subst (λ l. Addable room l (road s e m)) (append-nil before) (h 0 finish (omega arith)) in
    record { starts = omega arith; ends = omega arith }
within room before (road s e m ∷ es) h (suc j) d lt = subst (λ n. Within n (get_or (roads_of es) j d)) (omega (arith, places_append before (road s e m ∷ []))) (within room (before ++ road s e m ∷ []) es (adds_rest room before (road s e m) es h) j d (omega arith))

pub serving : (file : List ℕ) (t : List Road) (n : Network) (t' : List Road) → Whole file t n t' → Serving n t'
serving file t n t' w =
    let es = w.entries in
    let rest = drop (length (roads_of es)) t in
    record {
      long = omega (arith, w.roads, ap length w.fills.table, length-append (roads_of es) rest);
      named = λ i d lt.
          let low : i < length (roads_of es) = omega (arith, w.roads) in
          subst (λ r. Within n.places r) (sym (ap (λ l. get_or l i d) w.fills.table ∙ get_or_append_left (roads_of es) rest d i low))
          (subst (λ m. Within m (get_or (roads_of es) i d)) (omega (arith, w.places)) (within (length t) [] es w.fills.added i d low));
    }
