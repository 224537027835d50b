-- What a sweep into the unused rows of a table makes of a book.
use Rattle.std.proofs.Common.{◌≡◌, ℕ, ◌+◌, ◌-◌, ◌<◌, ◌≤◌, true, List, [], ◌∷◌, ◌++◌, map, length, get_or, take, drop, is_err, IsErrAnd, Ok, Err, Result, sym, refl, ap, ◌∙◌, subst, ⊎_elim, append_assoc, arith, length-append, length-drop, length-take}
use Rattle.std.proofs.lemmas.List.{get_or_append_left, get_or-drop, get_or_push, get_or-take, length_push, length-take-le, drop_at, take-append-drop, take-append-le, take_at}
use Rattle.std.proofs.lemmas.Bool.{cases_lt, false≢true}
use Rattle.criteria.specs.Meaning.{Meaning}
use Rattle.roads.specs.Networks as network
use Rattle.roads.specs.declared.network.Network.{Network}
use Rattle.roads.specs.declared.road.Road.{Road}
use Rattle.rows.specs.declared.row.Row.{Row}
use Rattle.rows.specs.declared.sheet.Sheet.{Sheet}
use Rattle.rows.specs.Places.{RowAt, pair_of, rows_at, rows_of}
use Rattle.rows.specs.Sound.{LawfulRow, SheetSound, Sound}
use Rattle.growth.proofs.Tables.{made_more, trail_more}
use Rattle.sweep.specs.Sweeps.{plan_of, StandsFor}
use Rattle.sweep.specs.declared.sweeping.SweepFault.{SweepFault}
use Rattle.sweep.specs.declared.sweeping.SweepFault.TheVariants.{ForeignTable, NoSuchPlace, RowsFull}
use Rattle.trips.specs.Pages.{Page}
use Rattle.book.specs.declared.added.Added.{Added}
use Rattle.book.specs.declared.book.Book.{Book}
use Rattle.book.specs.declared.fault.PlannerFault.{PlannerFault}
use Rattle.book.specs.Faults.{told}
use Rattle.book.specs.Reading.{Serving, count_of, sheet_of}
use Rattle.book.specs.Sweeping.{Entered, Filled, OneMore, Served, SweepRefused, Sweeping, swept_sheet}
use Rattle.rows.proofs.Checks.{unread}
use Rattle.book.proofs.Kept.{ends_within, sheet_kept}

-- a row of a sweep stands for its trip also where rows are added behind it
stands_more : {V W : Type 0} (a : Meaning V) (b : Meaning W) (n : Network) (roads : List Road) (origin : ℕ) (t xs : List (Row V W)) (k : ℕ) (r : Row V W) → k ≤ length t → StandsFor a b n roads origin t k r → StandsFor a b n roads origin (t ++ xs) k r
stands_more a b n roads origin t xs k r low h = record {
  uses = h.uses;
  stops = h.stops;
  drives = h.drives;
  values = h.values;
  count = h.count;
  trail = trail_more t xs k (map (λ u. u.road) h.uses) h.trail;
  visits = h.visits;
  distinct = h.distinct;
  short = h.short;
  first = h.first;
  second = h.second;
}

-- and may stand where it does
lawful_more : {V W : Type 0} (a : Meaning V) (b : Meaning W) (places roads : ℕ) (t xs : List (Row V W)) (reach k : ℕ) (r : Row V W) → k ≤ length t → LawfulRow a b places roads t reach k r → LawfulRow a b places roads (t ++ xs) reach k r
lawful_more a b places roads t xs reach k r low h = record { fits = h.fits; made = made_more roads t xs k r.roads r.source low h.made }

module _ {A B V W : Type 0} (a : Meaning V) (b : Meaning W) (k : Book A B) (roads : List Road) (rows rows' : List (Row V W)) (origin : ℕ) (served : Served a b k roads rows) (inside : origin < k.network.places) (few : count_of k < 64) where
  -- the rows in use
  front : List (Row V W)
  front = take k.used rows

  front_long : length front ≡ k.used
  unfolding front
  front_long = length-take-le k.used rows served.by_rows.long

  -- a refusal of the search is the book's
  refused : (f : SweepFault) → Filled a b k roads rows rows' origin (Err f) → SweepRefused a b k roads rows origin (told f)
  refused ForeignTable f = absurd (f.swept (omega (arith, k.used_fits, served.by_rows.long), served.by_roads))
  refused NoSuchPlace f = absurd (omega (arith, f.swept.1))
  refused RowsFull f = (served, inside, few, f.swept.2, f.swept.3)

  -- the rows in use are as they were
  before : {r : Result ℕ SweepFault} → Filled a b k roads rows rows' origin r → take k.used rows' ≡ take k.used rows
  unfolding front
  before f = ap (take k.used) f.table ∙ take_at front (f.free ++ f.rest) k.used front_long

  -- so a refused search is a refused sweep
  pub turned_down : (r : Result Added PlannerFault) (f : SweepFault) → is_err r ≡ true → IsErrAnd r (λ p. p ≡ told f) → Filled a b k roads rows rows' origin (Err f) → Sweeping a b k k roads rows rows' origin r
  turned_down (Ok added) f e h w = absurd (false≢true e)
  turned_down (Err p) f e h w = (subst (SweepRefused a b k roads rows origin) (sym h) (refused f w), refl, before w)

  module _ (count : ℕ) (f : Filled a b k roads rows rows' origin (Ok count)) where
    -- the new sheet
    abbrev s : Sheet
    s = swept_sheet k origin count

    room : count ≤ length f.free
    room = f.swept.2.room

    -- its rows are the first of those that were lent
    part_is : rows_of s rows' ≡ take count f.free
    unfolding front
    part_is = ap (λ t. take count (drop k.used t)) f.table ∙ ap (take count) (drop_at front (f.free ++ f.rest) k.used front_long) ∙ take-append-le count f.free f.rest room

    table_is : rows' ≡ (front ++ take count f.free) ++ (drop count f.free ++ f.rest)
    unfolding front
    table_is =
        f.table ∙
        ap (λ l. front ++ (l ++ f.rest)) (sym (take-append-drop count f.free)) ∙
        ap (λ l. front ++ l) (append_assoc (take count f.free) (drop count f.free) f.rest) ∙
        sym (append_assoc front (take count f.free) (drop count f.free ++ f.rest))

    -- each of them stands within the rows in use and those of the new sheet
    behind : (i : ℕ) (r : Row V W) → RowAt (take count f.free) i r → k.used + i ≤ length (front ++ take count f.free)
    behind i r at = omega (arith, at.0, length-append front (take count f.free), front_long)

    -- each of them stands for its trip
    each : (i : ℕ) (r : Row V W) → RowAt (rows_of s rows') i r → StandsFor a b k.network roads origin rows' (k.used + i) r
    each i r at =
        let at' = subst (λ l. RowAt l i r) part_is at in
        subst (λ t. StandsFor a b k.network roads origin t (k.used + i) r) (sym table_is) (stands_more a b k.network roads origin (front ++ take count f.free) (drop count f.free ++ f.rest) (k.used + i) r (behind i r at') (f.swept.2.each front front_long i r at'))

    -- and may stand where it does
    lawful : (i : ℕ) (r : Row V W) → RowAt (rows_of s rows') i r → LawfulRow a b k.network.places k.network.roads rows' (k.network.places - 1) (k.used + i) r
    lawful i r at =
        let at' = subst (λ l. RowAt l i r) part_is at in
        subst (λ t. LawfulRow a b k.network.places k.network.roads t (k.network.places - 1) (k.used + i) r) (sym table_is) (lawful_more a b k.network.places k.network.roads (front ++ take count f.free) (drop count f.free ++ f.rest) (k.network.places - 1) (k.used + i) r (behind i r at') (f.lawful.each front front_long i r at'))

    -- so the new sheet is sound
    new_sound : SheetSound a b k.network.places k.network.roads rows' s
    new_sound = record {
      rows = λ j from to r (low, is).
          let i = j - k.used in
          let same : k.used + i ≡ j = omega arith in
          let short : i < count = omega arith in
          let at : RowAt (rows_of s rows') i r = (
            simp (length-take, length-drop) (omega arith),
            λ d. get_or-take count (drop k.used rows') i d short ∙ get_or-drop k.used rows' i d ∙ ap (λ m. get_or rows' m d) same ∙ is d,
          ) in
          subst (λ m. LawfulRow a b k.network.places k.network.roads rows' (k.network.places - 1) m r) same (lawful i r at);
    }

    -- and all sheets are
    sound_again : Sound a b k.network.places k.network.roads (k.sheets.items ++ s ∷ []) (k.used + count) rows'
    unfolding front
    sound_again =
        let old = k.sheets.items in
        record {
          long = omega (arith, ap length f.table, length-append front (f.free ++ f.rest), length-append f.free f.rest, front_long, room);
          each = λ i d lt. ⊎_elim
              (λ low.
              let ends = ends_within old i d k.following low in
              subst (SheetSound a b k.network.places k.network.roads rows') (sym (get_or_append_left old (s ∷ []) d i low))
              (sheet_kept rows rows' k.used (before f) served.by_rows.long a b k.network.places k.network.roads (get_or old i d) (omega (arith, ends, k.used_is)) (served.by_rows.each i d low)))
              (λ high.
              let last : length old ≡ i = omega (arith, lt, length_push old s) in
              subst (SheetSound a b k.network.places k.network.roads rows') (sym (get_or_push old s d i last)) new_sound)
              (cases_lt i (length old));
        }

    module _ (k' : Book A B) (one : OneMore k k' s) where
      -- the new sheet stands behind the others
      sheet_is : sheet_of k' (count_of k) ≡ s
      sheet_is = ap (λ l. get_or l (count_of k) unread) one.sheets ∙ get_or_push k.sheets.items s unread (count_of k) refl

      serving : Serving a b k' rows'
      serving =
          subst (λ n. Sound a b n.places n.roads k'.sheets.items k'.used rows') (sym one.network)
          (subst (λ l. Sound a b k.network.places k.network.roads l k'.used rows') (sym one.sheets)
          (subst (λ u. Sound a b k.network.places k.network.roads (k.sheets.items ++ s ∷ []) u rows') (sym one.used) sound_again))

      pub entered : Entered a b k k' roads rows rows' origin (record { sheet = count_of k; rows = count })
      entered = record {
        served = served;
        place = inside;
        room = few;
        fits = omega (arith, room, f.long);
        sheet = refl;
        number = f.swept.2.number;
        book = one;
        before = before f;
        pages = λ p. subst (λ l. Page a b (plan_of a b k.network roads origin) p (map pair_of (rows_at p l))) (sym (ap (λ x. rows_of x rows') sheet_is ∙ part_is)) (f.swept.2.pages p);
        each = each;
        again = record { by_roads = subst (λ n. network.Serving n roads) (sym one.network) served.by_roads; by_rows = serving };
      }
