-- One record more is added to a draft, or refused.
use Rattle.std.proofs.Common.{◌≡◌, ℕ, ◌+◌, ◌<◌, ◌≤◌, true, false, List, [], ◌∷◌, ◌++◌, length, get_or, take, drop, set, Ok, Err, Result, sym, refl, ap, ◌∙◌, subst, inl, inr, ⊎_elim, append_assoc, append-nil, arith, length-set, get_or-set_other, get_or-set_same}
use Rattle.std.specs.List.{flat_map}
use Rattle.std.proofs.slice.Lists.{all_by_recursion_push}
use Rattle.std.proofs.lemmas.List.{drop_more, set_at, flat_map_more, take-append-le, get_or_append_left, get_or_push, length_push, take_at}
use Rattle.std.proofs.lemmas.Bool.{cases_lt}
use Rattle.roads.specs.Drafts.{Placed, Laid, LayingRefused}
use Rattle.roads.specs.Tables.{Serves, Within}
use Rattle.roads.specs.declared.draft.Draft.{Draft}
use Rattle.roads.specs.declared.fault.DraftFault.{DraftFault}
use Rattle.roads.specs.declared.fault.DraftFault.TheVariants.{UnknownPlace, PlacesFull, RoadsFull, NoPlace, ForeignTable}
use Rattle.roads.specs.declared.road.Road.{Road}
use Rattle.roadfile.specs.declared.fault.FileFault.{FileFault}
use Rattle.roadfile.specs.declared.fault.FileFault.TheVariants as fault
use Rattle.roadfile.specs.Format.{Entry, place, road, remark, finish, header, written, ends, Proper}
use Rattle.roadfile.specs.Loading.{places_of, roads_of, count_of, Addable, carried, Added, Fills, Stops}
use Rattle.roadfile.specs.Reading.{Leads}

-- the places that entries add, and others behind them
pub places_append : (xs ys : List Entry) → places_of (xs ++ ys) ≡ places_of xs + places_of ys
places_append [] ys = omega arith
places_append (place n ∷ xs) ys = let more = places_append xs ys in omega arith
places_append (road s e m ∷ xs) ys = places_append xs ys
places_append (remark x ∷ xs) ys = places_append xs ys
places_append (finish ∷ xs) ys = places_append xs ys

roads_append : (xs ys : List Entry) → roads_of (xs ++ ys) ≡ roads_of xs ++ roads_of ys
roads_append [] ys = refl
roads_append (place n ∷ xs) ys = roads_append xs ys
roads_append (road s e m ∷ xs) ys = ap (λ l. record { start = s; end = e; marks = m; «open» = true } ∷ l) (roads_append xs ys)
roads_append (remark x ∷ xs) ys = roads_append xs ys
roads_append (finish ∷ xs) ys = roads_append xs ys

-- the draft and its table, where the entries es have been added over the table t
pub record Drafted (t : List Road) (d : Draft) (es : List Entry) (t' : List Road) : Type 0 where
  pub places : d.places ≡ places_of es
  pub roads : d.roads ≡ count_of es
  pub serves : Serves d.places d.roads t'
  pub same : length t' ≡ length t
  pub table : t' ≡ roads_of es ++ drop (count_of es) t

wider : (n m : ℕ) (r : Road) → n ≤ m → Within n r → Within m r
wider n m r h w = record { starts = omega (arith, w.starts); ends = omega (arith, w.ends) }

-- a record that adds no road leaves the table as it was
no_road : (t : List Road) (es : List Entry) (e : Entry) (t' : List Road) → roads_of (e ∷ []) ≡ [] → t' ≡ roads_of es ++ drop (count_of es) t → t' ≡ roads_of (es ++ e ∷ []) ++ drop (count_of (es ++ e ∷ [])) t
no_road t es e t' none h =
    let same : roads_of (es ++ e ∷ []) ≡ roads_of es = roads_append es (e ∷ []) ∙ ap (λ l. roads_of es ++ l) none ∙ append-nil (roads_of es) in
    h ∙ ap (λ l. l ++ drop (length l) t) (sym same)

-- a record that means nothing to the draft
idle : (t : List Road) (e : Entry) (es : List Entry) (d d' : Draft) (t' t'' : List Road) → places_of (e ∷ []) ≡ 0 → roads_of (e ∷ []) ≡ [] → Drafted t d es t' → d' ≡ d → t'' ≡ t' → Drafted t d' (es ++ e ∷ []) t''
idle t e es d d' t' t'' p r h ed et =
    let count : count_of (es ++ e ∷ []) ≡ count_of es = ap length (roads_append es (e ∷ []) ∙ ap (λ l. roads_of es ++ l) r ∙ append-nil (roads_of es)) in
    let here : Drafted t d (es ++ e ∷ []) t' = record {
      places = omega (arith, h.places, places_append es (e ∷ []), p);
      roads = h.roads ∙ sym count;
      serves = h.serves;
      same = h.same;
      table = no_road t es e t' r h.table;
    } in
    subst (λ x. Drafted t x (es ++ e ∷ []) t'') (sym ed) (subst (λ x. Drafted t d (es ++ e ∷ []) x) (sym et) here)

-- a place more
placed : (t : List Road) (name : List ℕ) (es : List Entry) (d d' : Draft) (t' t'' : List Road) (n : ℕ) → Drafted t d es t' → Placed d (Ok n) d' → t'' ≡ t' → Drafted t d' (es ++ place name ∷ []) t''
placed t name es d d' t' t'' n h (_, _, more, kept) et =
    let count : count_of (es ++ place name ∷ []) ≡ count_of es = ap length (roads_append es (place name ∷ []) ∙ append-nil (roads_of es)) in
    let here : Drafted t d' (es ++ place name ∷ []) t' = record {
      places = omega (arith, h.places, places_append es (place name ∷ []), more);
      roads = kept ∙ h.roads ∙ sym count;
      serves = record {
        long = omega (arith, h.serves.long, kept);
        named = λ i r lt. wider d.places d'.places (get_or t' i r) (omega arith) (h.serves.named i r (omega arith));
      };
      same = h.same;
      table = no_road t es (place name) t' refl h.table;
    } in
    subst (λ x. Drafted t d' (es ++ place name ∷ []) x) (sym et) here

-- the table with a road more
laid_table : (t : List Road) (es : List Entry) (s e : ℕ) (m : List ℕ) (t' : List Road) (r : Road) → r ≡ record { start = s; end = e; marks = m; «open» = true } → count_of es < length t → t' ≡ roads_of es ++ drop (count_of es) t → set t' (count_of es) r ≡ roads_of (es ++ road s e m ∷ []) ++ drop (count_of (es ++ road s e m ∷ [])) t
laid_table t es s e m t' r is room h =
    let n = count_of es in
    let all : roads_of (es ++ road s e m ∷ []) ≡ roads_of es ++ r ∷ [] = roads_append es (road s e m ∷ []) ∙ ap (λ x. roads_of es ++ x ∷ []) (sym is) in
    let count : length (roads_of es ++ r ∷ []) ≡ n + 1 = length_push (roads_of es) r in
    ap (λ l. set l n r) (h ∙ ap (λ l. roads_of es ++ l) (drop_more t n r room)) ∙ set_at (roads_of es) (get_or t n r) (drop (n + 1) t) r n refl ∙ sym (append_assoc (roads_of es) (r ∷ []) (drop (n + 1) t)) ∙ ap (λ k. (roads_of es ++ r ∷ []) ++ drop k t) (sym count) ∙ ap (λ l. l ++ drop (length l) t) (sym all)

-- a road more
laid : (t : List Road) (es : List Entry) (s e : ℕ) (m : List ℕ) (d d' : Draft) (t' t'' : List Road) (n : ℕ) → Drafted t d es t' → Laid d t' s e m (Ok n) d' t'' → Addable (length t) es (road s e m) × Drafted t d' (es ++ road s e m ∷ []) t''
laid t es s e m d d' t' t'' n h (_, from, to, few, room, is, places, roads, put) =
    let r : Road = record { start = s; end = e; marks = m; «open» = true } in
    let more = roads_append es (road s e m ∷ []) in
    let long = ap length more ∙ length_push (roads_of es) r in
    let at : n ≡ count_of es = is ∙ h.roads in
    let after : Drafted t d' (es ++ road s e m ∷ []) (set t' n r) = record {
      places = omega (arith, h.places, places_append es (road s e m ∷ []), places);
      roads = omega (arith, h.roads, long, roads);
      serves = record {
        long = omega (arith, length-set t' n r, roads, room);
        named = λ i x lt. ⊎_elim
            (λ low. let other : get_or (set t' n r) i x ≡ get_or t' i x = get_or-set_other t' n i r x (λ eq. omega arith) in
            subst (Within d'.places) (sym other) (wider d.places d'.places (get_or t' i x) (omega arith) (h.serves.named i x low)))
            (λ high. let here : i ≡ n = omega arith in
            subst (Within d'.places) (sym (ap (λ k. get_or (set t' n r) k x) here ∙ get_or-set_same t' n r x (omega arith))) (record { starts = omega arith; ends = omega arith }))
            (cases_lt i d.roads);
      };
      same = length-set t' n r ∙ h.same;
      table = ap (λ k. set t' k r) at ∙ laid_table t es s e m t' r refl (omega (arith, h.roads, h.same)) h.table;
    } in (
      (omega (arith, h.places), omega (arith, h.places), omega (arith, h.roads), omega (arith, h.roads, h.same)),
      subst (λ x. Drafted t d' (es ++ road s e m ∷ []) x) (sym put) after,
    )

-- no fault is an answer without a fault
err_not_ok : {A E : Type 0} {x : A} {f : E} → ◌≡◌ {A = Result A E} (Err f) (Ok x) → ⊥
err_not_ok e = let z : ◌≡◌ {A = ℕ} 0 1 = cc in omega arith

-- an answer without a fault came from one without a fault
from_ok : (q : Result ℕ DraftFault) → Ok tt ≡ carried q → (n : ℕ) × (q ≡ Ok n)
from_ok (Ok n) e = (n, refl)
from_ok (Err f) e = absurd (err_not_ok (sym e))

-- what adding a record without a fault leaves
pub adds : (t : List Road) (e : Entry) (es : List Entry) (d d' : Draft) (t' t'' : List Road) → Drafted t d es t' → Added e d t' (Ok tt) d' t'' → Addable (length t) es e × Drafted t d' (es ++ e ∷ []) t''
adds t (place name) es d d' t' t'' h (q, (p, et, ok)) =
    let (n, is) = from_ok q ok in
    let p' : Placed d (Ok n) d' = subst (λ x. Placed d x d') is p in
    (omega (arith, h.places, p'.0), placed t name es d d' t' t'' n h p' et)
adds t (road s e m) es d d' t' t'' h (q, (l, ok)) =
    let (n, is) = from_ok q ok in
    laid t es s e m d d' t' t'' n h (subst (λ x. Laid d t' s e m x d' t'') is l)
adds t (remark text) es d d' t' t'' h (_, ed, et) = (tt, idle t (remark text) es d d' t' t'' refl refl h ed et)
adds t finish es d d' t' t'' h (_, ed, et) = (tt, idle t finish es d d' t' t'' refl refl h ed et)

-- a fault of the file that came from the draft holds the draft's fault
from_err : (q : Result ℕ DraftFault) (f : FileFault) → Err f ≡ carried q → (g : DraftFault) × (q ≡ Err g) × (f ≡ fault.Draft g)
from_err (Ok n) f e = absurd (err_not_ok e)
from_err (Err g) f e = (g, refl, cc)

-- why the draft refuses a road, by the entries before it
road_refused : (t : List Road) (es : List Entry) (s e : ℕ) (m : List ℕ) (d : Draft) (t' : List Road) (left : List ℕ) (g : DraftFault) → Drafted t d es t' → Leads left (road s e m) → LayingRefused d t' s e g → Stops (length t) es left (fault.Draft g)
road_refused t es s e m d t' left ForeignTable h l r = absurd (r h.serves)
road_refused t es s e m d t' left UnknownPlace h l (_, r) = (road s e m, (l, ⊎_elim (λ p. inl (omega (arith, h.places))) (λ p. inr (omega (arith, h.places))) r))
road_refused t es s e m d t' left RoadsFull h l (_, from, to, r) =
    (road s e m, (l, (omega (arith, h.places), omega (arith, h.places), ⊎_elim (λ p. inl (sym h.roads ∙ p)) (λ p. inr (sym h.roads ∙ p ∙ h.same)) r)))
road_refused t es s e m d t' left PlacesFull h l r = absurd r
road_refused t es s e m d t' left NoPlace h l r = absurd r

-- what adding a record with a fault leaves, and why
pub refuses : (t : List Road) (e : Entry) (es : List Entry) (d d' : Draft) (t' t'' : List Road) (left : List ℕ) (f : FileFault) → Drafted t d es t' → Leads left e → Added e d t' (Err f) d' t'' → Stops (length t) es left f × (t'' ≡ t')
refuses t (place name) es d d' t' t'' left f h l (q, (p, et, err)) =
    let (g, is, isf) = from_err q f err in
    let (full, many, _) = subst (λ x. Placed d x d') is p in
    (subst (Stops (length t) es left) (sym (isf ∙ ap fault.Draft full)) (place name, (l, (refl, sym h.places ∙ many))), et)
refuses t (road s e m) es d d' t' t'' left f h l (q, (p, err)) =
    let (g, is, isf) = from_err q f err in
    let (why, _, et) = subst (λ x. Laid d t' s e m x d' t'') is p in
    (subst (Stops (length t) es left) (sym isf) (road_refused t es s e m d t' left g h l why), et)
refuses t (remark text) es d d' t' t'' left f h l (ok, _, _) = absurd (err_not_ok ok)
refuses t finish es d d' t' t'' left f h l (ok, _, _) = absurd (err_not_ok ok)

-- a record more that was added
pub fills_more : (file : List ℕ) (t : List Road) (es : List Entry) (left : List ℕ) (e : Entry) (d' : Draft) (t' t'' : List Road) → Fills file t es left t' → Leads left e → ends e ≡ false → Addable (length t) es e → Drafted t d' (es ++ e ∷ []) t'' → Fills file t (es ++ e ∷ []) (drop (length (written e)) left) t''
fills_more file t es left e d' t' t'' h l on may after = record {
  bytes = h.bytes ∙ ap (λ x. (header ++ flat_map written es) ++ x) l.bytes ∙ sym (append_assoc (header ++ flat_map written es) (written e) (drop (length (written e)) left)) ∙ ap (λ x. x ++ drop (length (written e)) left) (flat_map_more written header es e);
  proper = all_by_recursion_push (λ x. Proper x × (ends x ≡ false)) es e h.proper (l.proper, on);
  added = λ i d lt. ⊎_elim
      (λ low.
      let front : take i (es ++ e ∷ []) ≡ take i es = take-append-le i es (e ∷ []) (omega arith) in
      let same : get_or (es ++ e ∷ []) i d ≡ get_or es i d = get_or_append_left es (e ∷ []) d i low in
      subst (λ x. Addable (length t) x (get_or (es ++ e ∷ []) i d)) (sym front) (subst (Addable (length t) (take i es)) (sym same) (h.added i d low)))
      (λ high.
      let last : length es ≡ i = omega (arith, length_push es e) in
      let front : take i (es ++ e ∷ []) ≡ es = take_at es (e ∷ []) i last in
      let same : get_or (es ++ e ∷ []) i d ≡ e = get_or_push es e d i last in
      subst (λ x. Addable (length t) x (get_or (es ++ e ∷ []) i d)) (sym front) (subst (Addable (length t) es) (sym same) may))
      (cases_lt i (length es));
  table = after.table;
}

-- such a fault is one of the draft
pub drafts_fault : (e : Entry) (d d' : Draft) (t t' : List Road) (f : FileFault) → Added e d t (Err f) d' t' → (g : DraftFault) × (f ≡ fault.Draft g)
drafts_fault (place name) d d' t t' f (q, (_, _, err)) = let (g, _, is) = from_err q f err in (g, is)
drafts_fault (road s e m) d d' t t' f (q, (_, err)) = let (g, _, is) = from_err q f err in (g, is)
drafts_fault (remark text) d d' t t' f (ok, _, _) = absurd (err_not_ok ok)
drafts_fault finish d d' t t' f (ok, _, _) = absurd (err_not_ok ok)
