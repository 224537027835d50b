-- The yard's roads are laid one after the other, and no call is refused.
use Rattle.std.proofs.Common.{◌≡◌, ℕ, ◌+◌, ◌<◌, ◌≤◌, Bool, true, ◌&&◌, ltb, List, [], ◌∷◌, ◌++◌, length, map, get_or, take, set, Ok, Err, Result, sym, refl, ap, ◌∙◌, subst, rules, arith, length-set}
use Rattle.std.specs.Result.{IsOk}
use Rattle.std.proofs.lemmas.List.{get_or-map, get_or-take, get_or_default, take_more, take_more_set}
use Rattle.roads.proofs.Changes.{unread}
use Rattle.roads.specs.Drafts.{Serving, LayingRefused, Laid, ClosingRefused, Closed}
use Rattle.roads.specs.Tables.{Within}
use Rattle.roads.specs.declared.draft.Draft.{Draft}
use Rattle.roads.specs.declared.draft.calls.Unclosed.{Unclosed}
use Rattle.roads.specs.declared.fault.DraftFault.{DraftFault}
use Rattle.roads.specs.declared.network.Network.{Network}
use Rattle.roads.specs.declared.road.Road.{Road}
use Rattle.yard.specs.Building.{Begun, entry_of}
use Rattle.yard.specs.Network.{yard_roads}
use Rattle.yard.proofs.Lists.{every_at}

-- whether a road is open and names places of the yard
abbrev sound : Road → Bool
sound r = (ltb r.start 4 && ltb r.end 4) && r.«open»

-- each road of the yard is such a one
sound_road : (k : ℕ) (d : Road) → k < 7 → Within 4 (get_or yard_roads k d) × ((get_or yard_roads k d).«open» ≡ true)
sound_road k d lt =
    let r = get_or yard_roads k d in
    let t = every_at sound yard_roads refl k r (lt, λ e. get_or_default yard_roads k e d lt) in
    search rules

-- a road that is the yard's names places that exist, where there are four
pub within_yard : (n k : ℕ) (d r : Road) → n ≡ 4 → k < 7 → r ≡ get_or yard_roads k d → Within n r
within_yard n k d r places lt is = rw (places, is) (sound_road k d lt).0

-- the table of a draft that was begun serves it
begun_serves : (n : ℕ) (d : Draft) (t : List Road) → n ≤ 7 → Begun n d t → Serving d t
begun_serves n d t few b = record {
  long = omega (arith, b.roads, b.long);
  named = λ i e lt.
      let low : i < n = omega (arith, b.roads) in
      let same = sym (get_or-take n t i e low) ∙ ap (λ l. get_or l i e) b.same ∙ get_or-take n yard_roads i e low in
      within_yard d.places i e (get_or t i e) b.places (omega arith) same;
}

module _ (n : ℕ) (d : Draft) (t : List Road) (low : n < 7) (b : Begun n d t) where
  -- the next road to be laid
  abbrev next : Road
  next = get_or yard_roads n unread

  -- it is not refused
  not_refused : (f : DraftFault) → LayingRefused d t next.start next.end f → ⊥
  not_refused f h =
      let serves = begun_serves n d t (omega (arith, low)) b in
      let named = within_yard d.places n unread next b.places low refl in
      search rules

  -- and once it is laid there is one more
  laid : (r : Result ℕ DraftFault) (d' : Draft) (t' : List Road) → Laid d t next.start next.end next.marks r d' t' → IsOk r × Begun (n + 1) d' t'
  laid (Ok k) d' t' (_, _, _, _, _, number, places, roads_are, set_is) =
      let whole : record { start = next.start; end = next.end; marks = next.marks; «open» = true } ≡ next =
      (λ i. record { start = next.start; end = next.end; marks = next.marks; «open» = sym (sound_road n unread low).1 i }) in
      let now_is : t' ≡ set t n next = set_is ∙ (λ i. set t ((number ∙ b.roads) i) (whole i)) in (
        refl,
        record {
          places = omega (arith, b.places);
          roads = omega (arith, b.roads);
          long = ap length now_is ∙ length-set t n next ∙ b.long;
          same =
              ap (take (n + 1)) now_is
              ∙ take_more_set t n next (omega (arith, low, b.long))
              ∙ ap (λ l. l ++ next ∷ []) b.same
              ∙ sym (take_more yard_roads n unread low);
        },
      )
  laid (Err f) d' t' (refusal, _, _) = absurd (not_refused f refusal)

  -- so it is from its entry
  pub laid_from : (r : Result ℕ DraftFault) (d' : Draft) (t' : List Road) → let (s, e, m) = get_or (map entry_of yard_roads) n (0, 0, []) in Laid d t s e m r d' t' → IsOk r × Begun (n + 1) d' t'
  laid_from r d' t' h = laid r d' t' (subst (λ (s, e, m). Laid d t s e m r d' t') (get_or-map entry_of yard_roads n unread (0, 0, []) low) h)

module _ (d : Draft) (t t' : List Road) (b : Begun 7 d t) where
  -- a draft with all the roads is not refused when it is closed
  unrefused : (f : DraftFault) → ClosingRefused d t f → ⊥
  unrefused f h =
      let serves = begun_serves 7 d t (omega arith) b in
      search rules

  pub closes : (r : Result Network Unclosed) → Closed d t r t' → IsOk r
  closes (Ok n) h = refl
  closes (Err u) (refusal, _, _) = absurd (unrefused u.fault refusal)
