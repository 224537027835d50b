-- How far a loading has come, and what each way out of it shows.
use Rattle.std.proofs.Common.{◌≡◌, ℕ, ◌-◌, true, false, List, [], ◌∷◌, ◌++◌, map, length, take, drop, Some, Ok, Err, Result, sym, refl, ap, ◌∙◌, subst, inr, arith}
use Rattle.std.proofs.lemmas.Bool.{false≢true, true≢false}
use Rattle.std.proofs.lemmas.List.{take_at, drop_at}
use Rattle.roads.specs.Drafts.{Closed}
use Rattle.roads.specs.Tables.{turned, opened}
use Rattle.roads.specs.declared.draft.Draft.{Draft}
use Rattle.roads.specs.declared.fault.DraftFault.TheVariants.{UnknownPlace, PlacesFull, RoadsFull, NoPlace, ForeignTable}
use Rattle.roads.specs.declared.network.Network.{Network}
use Rattle.roads.specs.declared.road.Road.{Road}
use Rattle.roadfile.specs.declared.fault.FileFault.{FileFault}
use Rattle.roadfile.specs.declared.fault.FileFault.TheVariants as fault
use Rattle.roadfile.specs.declared.fault.LoadFault.{LoadFault}
use Rattle.roadfile.specs.declared.reader.Reader.{Reader}
use Rattle.roadfile.specs.declared.reader.Item.{Item}
use Rattle.roadfile.specs.Format.{Entry, place, road, remark, finish, entry, written, ends}
use Rattle.roadfile.specs.Loading.{roads_of, count_of, Added, Fills, Stops, NotClosed, ClosedAt, place_of, Broken, Whole, Loaded}
use Rattle.roadfile.specs.Reading.{Leads, left_of, offset_of, Opened, Handed}
use Rattle.roadfile.proofs.Filling.{Drafted, adds, fills_more}

-- how far a loading of the file over the table t has come: the records before those that are left were added;
-- where the reader is done, it has handed out the end record too, at the offset `at`
pub record Sofar (file : List ℕ) (t : List Road) (s : Reader) (d : Draft) (t' : List Road) (at : ℕ) : Type 0 where
  pub before : List Entry
  pub left : List ℕ
  pub fills : Fills file t before left t'
  pub drafted : Drafted t d before t'
  pub size : s.size ≡ length file
  pub going : s.done ≡ false → left ≡ left_of s
  pub done : s.done ≡ true → (left ≡ written finish ++ left_of s) × (at ≡ length file - length left)

-- only the end record ends
ends_is : (e : Entry) → ends e ≡ true → e ≡ finish
ends_is finish h = refl
ends_is (place n) h = absurd (false≢true h)
ends_is (road s e m) h = absurd (false≢true h)
ends_is (remark x) h = absurd (false≢true h)

module _ (file : List ℕ) (t : List Road) where
  pub start : (s : Reader) (d : Draft) → Opened file (Ok s) → d.places ≡ 0 → d.roads ≡ 0 → Sofar file t s d t 0
  start s d (bytes, size, not_done) p r = record {
    before = [];
    left = left_of s;
    fills = record { bytes = bytes; proper = tt; added = λ i x h. absurd (omega arith); table = refl };
    drafted = record { places = p; roads = r; serves = record { long = omega arith; named = λ i x h. absurd (omega arith) }; same = refl; table = refl };
    size = size;
    going = λ _. refl;
    done = λ h. absurd (true≢false (sym h ∙ not_done));
  }

  module _ (s : Reader) (d : Draft) (t' : List Road) (at : ℕ) (h : Sofar file t s d t' at) where
    -- where the reader goes on, its offset is where the records that were added end
    offset_is : s.done ≡ false → offset_of s ≡ length file - length h.left
    offset_is on = ap (λ n. n - length (left_of s)) h.size ∙ ap (λ l. length file - length l) (sym (h.going on))

    leads_here : (e : Entry) → s.done ≡ false → Leads (left_of s) e → Leads h.left e
    leads_here e on l = subst (λ x. Leads x e) (sym (h.going on)) l

    pub more : (i : Item) (s' : Reader) (d' : Draft) (t'' : List Road) → Handed s (Ok (Some i)) s' → Added (entry i.record) d t' (Ok tt) d' t'' → Sofar file t s' d' t'' i.offset
    more i s' d' t'' (on, l, at_i, rest, size, stop) a =
        let e = entry i.record in
        let l' = leads_here e on l in
        let (may, after) = adds t e h.before d d' t' t'' h.drafted a in
        let go : ends e ≡ false → Sofar file t s' d' t'' i.offset = λ ends_not. record {
          before = h.before ++ e ∷ [];
          left = drop (length (written e)) h.left;
          fills = fills_more file t h.before h.left e d' t' t'' h.fills l' ends_not may after;
          drafted = after;
          size = size ∙ h.size;
          going = λ _. ap (drop (length (written e))) (h.going on) ∙ sym rest;
          done = λ is. absurd (true≢false (sym is ∙ stop ∙ ends_not));
        } in
        let halt : ends e ≡ true → Sofar file t s' d' t'' i.offset = λ ends_so.
        let is = ends_is e ends_so in
        let (_, ed, et) = subst (λ x. Added x d t' (Ok tt) d' t'') is a in
        record {
          before = h.before;
          left = h.left;
          fills = subst (λ x. Fills file t h.before h.left x) (sym et) h.fills;
          drafted = subst (λ x. Drafted t x h.before t'') (sym ed) (subst (λ x. Drafted t d h.before x) (sym et) h.drafted);
          size = size ∙ h.size;
          going = λ is_not. absurd (true≢false (sym (stop ∙ ends_so) ∙ is_not));
          done = λ _. (h.going on ∙ l.bytes ∙ ap (λ x. written e ++ x) (sym rest) ∙ ap (λ x. written x ++ left_of s') is, at_i ∙ offset_is on);
        } in
        elim (ends e) as (λ b. (ends e ≡ b → Sofar file t s' d' t'' i.offset)) [ true ↦ halt | false ↦ go ] refl

    -- what is left where nothing follows the end record
    left_finish : s.done ≡ true → left_of s ≡ [] → h.left ≡ written finish
    left_finish off none = (h.done off).0 ∙ ap (λ x. written finish ++ x) none

    -- the roads of a file are open already
    open_still : (es : List Entry) → map (turned true) (roads_of es) ≡ roads_of es
    open_still [] = refl
    open_still (place n ∷ es) = open_still es
    open_still (road a b m ∷ es) = ap (λ l. record { start = a; end = b; marks = m; «open» = true } ∷ l) (open_still es)
    open_still (remark x ∷ es) = open_still es
    open_still (finish ∷ es) = open_still es

    opened_same : opened d.roads t' ≡ t'
    opened_same =
        let es = h.before in
        let split = h.drafted.table in
        let n : length (roads_of es) ≡ d.roads = sym h.drafted.roads in
        let front : take d.roads t' ≡ roads_of es = ap (take d.roads) split ∙ take_at (roads_of es) (drop (count_of es) t) d.roads n in
        let back : drop d.roads t' ≡ drop (count_of es) t = ap (drop d.roads) split ∙ drop_at (roads_of es) (drop (count_of es) t) d.roads n in
        ap (λ l. map (turned true) l ++ drop d.roads t') front ∙ ap (λ l. l ++ drop d.roads t') (open_still es) ∙ ap (λ l. roads_of es ++ l) back ∙ sym split

    fills_finish : (t'' : List Road) → s.done ≡ true → left_of s ≡ [] → t'' ≡ t' → Fills file t h.before (written finish) t''
    fills_finish t'' off none same = subst (λ x. Fills file t h.before x t'') (left_finish off none) (subst (λ x. Fills file t h.before h.left x) (sym same) h.fills)

    pub whole : (n : Network) (t'' : List Road) → s.done ≡ true → left_of s ≡ [] → Closed d t' (Ok n) t'' → Whole file t n t''
    whole n t'' off none (_, some, places, roads, left_open) = record {
      entries = h.before;
      fills = fills_finish t'' off none (left_open ∙ opened_same);
      some = omega (arith, h.drafted.places);
      places = places ∙ h.drafted.places;
      roads = roads ∙ h.drafted.roads;
    }

    -- a draft that was filled from a file can only lack a place
    no_place : (f : FileFault) → NotClosed d t' f → (f ≡ fault.Draft NoPlace) × (d.places ≡ 0)
    no_place (fault.Draft NoPlace) (_, none) = (refl, none)
    no_place (fault.Draft ForeignTable) r = absurd (r h.drafted.serves)
    no_place (fault.Draft UnknownPlace) r = absurd r
    no_place (fault.Draft PlacesFull) r = absurd r
    no_place (fault.Draft RoadsFull) r = absurd r
    no_place fault.Letters r = absurd r
    no_place fault.Version r = absurd r
    no_place fault.Cut r = absurd r
    no_place fault.Form r = absurd r
    no_place fault.Extra r = absurd r

    -- a closing that was refused
    unclosed : (f : LoadFault) (t'' : List Road) → s.done ≡ true → left_of s ≡ [] → ClosedAt at d t' (Err f) t'' → Broken file t f.fault f.offset t''
    unclosed f t'' off none (why, at_f, same) =
        let (is, places) = no_place f.fault why in
        record {
          before = h.before;
          left = h.left;
          fills = subst (λ x. Fills file t h.before h.left x) (sym same) h.fills;
          stops = subst (Stops (length t) h.before h.left) (sym is) (left_finish off none, sym h.drafted.places ∙ places);
          told = at_f ∙ (h.done off).1 ∙ ap (λ x. place_of x file h.left) (sym is);
        }

    pub closes : (r : Result Network LoadFault) (t'' : List Road) → s.done ≡ true → left_of s ≡ [] → ClosedAt at d t' r t'' → Loaded file t r t''
    closes (Ok n) t'' off none c = whole n t'' off none c
    closes (Err f) t'' off none c = inr (unclosed f t'' off none c)
