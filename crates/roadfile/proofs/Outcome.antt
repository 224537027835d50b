-- A file over a road table has one outcome.
use Rattle.std.proofs.Common.{◌≡◌, ℕ, suc, ◌+◌, ◌<◌, ◌≤◌, false, ◌⊎◌, List, [], ◌∷◌, ◌++◌, length, get_or, take, drop, Ok, Err, Result, sym, refl, ap, ◌∙◌, subst, inl, inr, ⊎_elim, append_assoc, arith, length-append}
use Rattle.std.specs.List.{flat_map, AllByRecursion}
use Rattle.std.proofs.lemmas.List.{take_at, drop_at, get_or_at, append_cancel_left}
use Rattle.roads.specs.declared.fault.DraftFault.{DraftFault}
use Rattle.roads.specs.declared.fault.DraftFault.TheVariants.{UnknownPlace, PlacesFull, RoadsFull, NoPlace, ForeignTable}
use Rattle.roads.specs.declared.network.Network.{Network}
use Rattle.roads.specs.declared.road.Road.{Road}
use Rattle.roadfile.specs.declared.fault.FileFault.{FileFault}
use Rattle.roadfile.specs.declared.fault.FileFault.TheVariants as fault
use Rattle.roadfile.specs.Format.{Entry, place, road, remark, finish, letters, header, kind, body, written, ends, Proper, Allowed, Short, Odd}
use Rattle.roadfile.specs.Loading.{places_of, roads_of, count_of, Addable, Refused, Fills, Stops, place_of, Broken, Whole}
use Rattle.roadfile.specs.Outcome.{OneOutcome}
use Rattle.roadfile.specs.Reading.{Leads, Unopened}
use Rattle.roadfile.proofs.Records.{road_length}
use Rattle.roadfile.proofs.Unique.{same_first}

one_lead : (left : List ℕ) (x y : Entry) → Leads left x → Leads left y → x ≡ y
one_lead left x y l m = (same_first x y _ _ l.proper m.proper (sym l.bytes ∙ m.bytes)).0

-- where a record begins the bytes, its head stands in them, and they have room for its body
head_of : (left : List ℕ) (x : Entry) → Leads left x → (get_or left 0 0 ≡ kind x) × (get_or left 1 0 ≡ length (body x)) × (2 + length (body x) ≤ length left)
head_of left x l =
    let whole = ap length l.bytes ∙ length-append (written x) (drop (length (written x)) left) in
    (ap (λ b. get_or b 0 0) l.bytes, ap (λ b. get_or b 1 0) l.bytes, omega arith)

-- a proper record has an allowed head
allowed_of : (x : Entry) → Proper x → Allowed (kind x) (length (body x))
allowed_of finish p = inl (refl, refl)
allowed_of (place n) p = inr (inl (refl, p.0, p.1))
allowed_of (road s e m) p = inr (inr (inl (refl, omega (arith, road_length s e m p))))
allowed_of (remark t) p = inr (inr (inr refl))

short_leads : (left : List ℕ) (x : Entry) → Short left → Leads left x → ⊥
short_leads left x sh l =
    let (k, n, room) = head_of left x l in
    ⊎_elim (λ h. omega arith) (λ (h, a, cut). omega (arith, n, room, cut)) sh

odd_leads : (left : List ℕ) (x : Entry) → Odd left → Leads left x → ⊥
odd_leads left x (two, no_such) l =
    let (k, n, room) = head_of left x l in
    no_such (subst (λ i. Allowed i (get_or left 1 0)) (sym k) (subst (Allowed (kind x)) (sym n) (allowed_of x l.proper)))

short_odd : (left : List ℕ) → Short left → Odd left → ⊥
short_odd left sh (two, no_such) = ⊎_elim (λ h. omega arith) (λ (h, a, cut). no_such a) sh

-- a record that the draft refuses cannot be added
refused_added : (room : ℕ) (es : List Entry) (x : Entry) (f : DraftFault) → Refused room es x f → Addable room es x → ⊥
refused_added room es (place n) f (_, many) a = omega arith
refused_added room es (road s e m) UnknownPlace r (a, b, c, d) = ⊎_elim (λ h. omega arith) (λ h. omega arith) r
refused_added room es (road s e m) RoadsFull (p, q, r) (a, b, c, d) = ⊎_elim (λ h. omega arith) (λ h. omega arith) r
refused_added room es (road s e m) PlacesFull r a = r
refused_added room es (road s e m) NoPlace r a = r
refused_added room es (road s e m) ForeignTable r a = r
refused_added room es (remark t) f r a = r
refused_added room es finish f r a = r

-- and it is refused by one fault
refused_once : (room : ℕ) (es : List Entry) (x : Entry) (f g : DraftFault) → Refused room es x f → Refused room es x g → f ≡ g
refused_once room es (place n) f g (a, _) (b, _) = a ∙ sym b
refused_once room es (road s e m) UnknownPlace UnknownPlace r q = refl
refused_once room es (road s e m) RoadsFull RoadsFull r q = refl
refused_once room es (road s e m) UnknownPlace RoadsFull r (a, b, _) = absurd (⊎_elim (λ h. omega arith) (λ h. omega arith) r)
refused_once room es (road s e m) RoadsFull UnknownPlace (a, b, _) r = absurd (⊎_elim (λ h. omega arith) (λ h. omega arith) r)
refused_once room es (road s e m) UnknownPlace PlacesFull r q = absurd q
refused_once room es (road s e m) UnknownPlace NoPlace r q = absurd q
refused_once room es (road s e m) UnknownPlace ForeignTable r q = absurd q
refused_once room es (road s e m) RoadsFull PlacesFull r q = absurd q
refused_once room es (road s e m) RoadsFull NoPlace r q = absurd q
refused_once room es (road s e m) RoadsFull ForeignTable r q = absurd q
refused_once room es (road s e m) PlacesFull g r q = absurd r
refused_once room es (road s e m) NoPlace g r q = absurd r
refused_once room es (road s e m) ForeignTable g r q = absurd r
refused_once room es (remark t) f g r q = absurd r
refused_once room es finish f g r q = absurd r

-- what a loading says at the record x that it does not add, where left begins with x
abbrev Verdict : ℕ → List Entry → List ℕ → Entry → Result (Unit {0}) FileFault → Type 0
Verdict room es left finish r =
    ((2 < length left) × (r ≡ Err fault.Extra)) ⊎ ((length left ≡ 2) × (places_of es ≡ 0) × (r ≡ Err (fault.Draft NoPlace))) ⊎ ((length left ≡ 2) × (0 < places_of es) × (r ≡ Ok tt))
Verdict room es left (place n) r = (f : DraftFault) × (Refused room es (place n) f × (r ≡ Err (fault.Draft f)))
Verdict room es left (road s e m) r = (f : DraftFault) × (Refused room es (road s e m) f × (r ≡ Err (fault.Draft f)))
Verdict room es left (remark t) r = (f : DraftFault) × (Refused room es (remark t) f × (r ≡ Err (fault.Draft f)))

refusal : (room : ℕ) (es : List Entry) (left : List ℕ) (x : Entry) (f : DraftFault) → Refused room es x f → Verdict room es left x (Err (fault.Draft f))
refusal room es left (place n) f r = (f, (r, refl))
refusal room es left (road s e m) f r = (f, (r, refl))
refusal room es left (remark t) f r = (f, (r, refl))
refusal room es left finish f r = absurd r

-- how a loading comes to its end behind the records es
data Halt (room : ℕ) (es : List Entry) (left : List ℕ) : Result (Unit {0}) FileFault → Type 0 where
  cut : Short left → Halt room es left (Err fault.Cut)
  odd : Odd left → Halt room es left (Err fault.Form)
  at : {r : Result (Unit {0}) FileFault} (x : Entry) → Leads left x → Verdict room es left x r → Halt room es left r

module _ (room : ℕ) (es : List Entry) (left : List ℕ) where
  refused_one : (x : Entry) (r q : Result (Unit {0}) FileFault) → (f : DraftFault) × (Refused room es x f × (r ≡ Err (fault.Draft f))) → (g : DraftFault) × (Refused room es x g × (q ≡ Err (fault.Draft g))) → r ≡ q
  refused_one x r q (f, (a, is)) (g, (b, is')) = is ∙ ap (λ h. Err (fault.Draft h)) (refused_once room es x f g a b) ∙ sym is'

  one_verdict : (x : Entry) (r q : Result (Unit {0}) FileFault) → Verdict room es left x r → Verdict room es left x q → r ≡ q
  one_verdict (place n) r q v w = refused_one (place n) r q v w
  one_verdict (road s e m) r q v w = refused_one (road s e m) r q v w
  one_verdict (remark t) r q v w = refused_one (remark t) r q v w
  one_verdict finish r q v w =
      ⊎_elim
      (λ (a, e). ⊎_elim (λ (b, f). e ∙ sym f) (λ u. ⊎_elim (λ (b, c, f). absurd (omega arith)) (λ (b, c, f). absurd (omega arith)) u) w)
      (λ u. ⊎_elim
      (λ (a, z, e). ⊎_elim (λ (b, f). absurd (omega arith)) (λ t. ⊎_elim (λ (b, c, f). e ∙ sym f) (λ (b, c, f). absurd (omega arith)) t) w)
      (λ (a, z, e). ⊎_elim (λ (b, f). absurd (omega arith)) (λ t. ⊎_elim (λ (b, c, f). absurd (omega arith)) (λ (b, c, f). e ∙ sym f) t) w)
      u)
      v

  one_halt : (r q : Result (Unit {0}) FileFault) → Halt room es left r → Halt room es left q → r ≡ q
  one_halt r q (cut a) (cut b) = refl
  one_halt r q (odd a) (odd b) = refl
  one_halt r q (cut a) (odd b) = absurd (short_odd left a b)
  one_halt r q (odd a) (cut b) = absurd (short_odd left b a)
  one_halt r q (cut a) (at x l v) = absurd (short_leads left x a l)
  one_halt r q (odd a) (at x l v) = absurd (odd_leads left x a l)
  one_halt r q (at x l v) (cut b) = absurd (short_leads left x b l)
  one_halt r q (at x l v) (odd b) = absurd (odd_leads left x b l)
  one_halt r q (at x l v) (at y m w) = one_verdict x r q v (subst (λ z. Verdict room es left z q) (sym (one_lead left x y l m)) w)

  refused_blocks : (x : Entry) (r : Result (Unit {0}) FileFault) → (f : DraftFault) × (Refused room es x f × (r ≡ Err (fault.Draft f))) → Addable room es x → ⊥
  refused_blocks x r (f, (a, _)) may = refused_added room es x f a may

  verdict_blocks : (x : Entry) (r : Result (Unit {0}) FileFault) → Verdict room es left x r → ends x ≡ false → Addable room es x → ⊥
  verdict_blocks (place n) r v on may = refused_blocks (place n) r v may
  verdict_blocks (road s e m) r v on may = refused_blocks (road s e m) r v may
  verdict_blocks (remark t) r v on may = refused_blocks (remark t) r v may
  verdict_blocks finish r v on may = let z : ◌≡◌ {A = ℕ} 0 1 = cc in omega arith

  -- a loading that came to its end could not have gone on
  blocks : (r : Result (Unit {0}) FileFault) (y : Entry) → Halt room es left r → Leads left y → ends y ≡ false → Addable room es y → ⊥
  blocks r y (cut a) l on may = short_leads left y a l
  blocks r y (odd a) l on may = odd_leads left y a l
  blocks r y (at x m v) l on may = verdict_blocks y r (subst (λ z. Verdict room es left z r) (one_lead left x y m l) v) on may

  finish_leads : left ≡ written finish → Leads left finish
  finish_leads e = record { proper = tt; bytes = e ∙ ap (λ x. written finish ++ x) (sym (ap (drop 2) e)) }

  halts : (f : FileFault) → Stops room es left f → Halt room es left (Err f)
  halts fault.Cut s = cut s
  halts fault.Form s = odd s
  halts fault.Extra (l, more) = at finish l (inl (more, refl))
  halts (fault.Draft NoPlace) (e, none) = at finish (finish_leads e) (inr (inl (ap length e, none, refl)))
  halts (fault.Draft UnknownPlace) (x, (l, r)) = at x l (refusal room es left x UnknownPlace r)
  halts (fault.Draft PlacesFull) (x, (l, r)) = at x l (refusal room es left x PlacesFull r)
  halts (fault.Draft RoadsFull) (x, (l, r)) = at x l (refusal room es left x RoadsFull r)
  halts (fault.Draft ForeignTable) s = absurd s
  halts fault.Letters s = absurd s
  halts fault.Version s = absurd s

-- ys goes on where xs ends, with the record y
Ahead : List Entry → List ℕ → List Entry → List ℕ → Type 0
Ahead xs l ys m = (y : Entry) × ((tail : List Entry) × ((ys ≡ xs ++ y ∷ tail) × (l ≡ written y ++ (flat_map written tail ++ m))))

abbrev Kept : Entry → Type 0
Kept e = Proper e × (ends e ≡ false)

-- two readings of the same bytes are one, or one goes on where the other ends
compare : (xs ys : List Entry) (l m : List ℕ) → AllByRecursion Kept xs → AllByRecursion Kept ys → flat_map written xs ++ l ≡ flat_map written ys ++ m → ((xs ≡ ys) × (l ≡ m)) ⊎ (Ahead xs l ys m ⊎ Ahead ys m xs l)
unfolding Ahead
compare [] [] l m p q e = inl (refl, e)
compare [] (y ∷ ys) l m p q e = inr (inl (y, (ys, (refl, e ∙ append_assoc (written y) (flat_map written ys) m))))
compare (x ∷ xs) [] l m p q e = inr (inr (x, (xs, (refl, sym e ∙ append_assoc (written x) (flat_map written xs) l))))
compare (x ∷ xs) (y ∷ ys) l m (px, p) (qy, q) e =
    let (is, rest) = same_first x y (flat_map written xs ++ l) (flat_map written ys ++ m) px.0 qy.0 (sym (append_assoc (written x) (flat_map written xs) l) ∙ e ∙ append_assoc (written y) (flat_map written ys) m) in
    ⊎_elim
    (λ (same, left). inl (ap (λ z. z ∷ xs) is ∙ ap (λ zs. y ∷ zs) same, left))
    (λ u. inr (⊎_elim
    (λ (z, (tail, (on, left))). inl (z, (tail, (ap (λ w. y ∷ w) on ∙ ap (λ w. w ∷ (xs ++ z ∷ tail)) (sym is), left))))
    (λ (z, (tail, (on, left))). inr (z, (tail, (ap (λ w. x ∷ w) on ∙ ap (λ w. w ∷ (ys ++ z ∷ tail)) is, left))))
    u))
    (compare xs ys l m p q rest)

every_mid : (xs : List Entry) (y : Entry) (tail : List Entry) → AllByRecursion Kept (xs ++ y ∷ tail) → Kept y
every_mid [] y tail (h, _) = h
every_mid (x ∷ xs) y tail (_, h) = every_mid xs y tail h

module _ (file : List ℕ) (t : List Road) where
  -- no reading goes on where another came to its end
  not_ahead : (xs ys : List Entry) (l m : List ℕ) (v : List Road) (r : Result (Unit {0}) FileFault) → Fills file t ys m v → Halt (length t) xs l r → Ahead xs l ys m → ⊥
  unfolding Ahead
  not_ahead xs ys l m v r h halt (y, (tail, (on, left))) =
      let kept = every_mid xs y tail (subst (AllByRecursion Kept) on h.proper) in
      let long : length ys ≡ length xs + suc (length tail) = ap length on ∙ length-append xs (y ∷ tail) in
      let front : take (length xs) ys ≡ xs = ap (take (length xs)) on ∙ take_at xs (y ∷ tail) (length xs) refl in
      let here : get_or ys (length xs) y ≡ y = ap (λ w. get_or w (length xs) y) on ∙ get_or_at xs y tail y (length xs) refl in
      let may : Addable (length t) xs y = subst (λ w. Addable (length t) w y) front (subst (Addable (length t) (take (length xs) ys)) here (h.added (length xs) y (omega arith))) in
      let behind : drop (length (written y)) l ≡ flat_map written tail ++ m = ap (drop (length (written y))) left ∙ drop_at (written y) (flat_map written tail ++ m) (length (written y)) refl in
      blocks (length t) xs l r y halt (record { proper = kept.0; bytes = left ∙ ap (λ w. written y ++ w) (sym behind) }) kept.1 may

  one_reading : (xs ys : List Entry) (l m : List ℕ) (u v : List Road) (r q : Result (Unit {0}) FileFault) → Fills file t xs l u → Fills file t ys m v → Halt (length t) xs l r → Halt (length t) ys m q → (xs ≡ ys) × (l ≡ m)
  one_reading xs ys l m u v r q h k a b =
      let bytes : header ++ (flat_map written xs ++ l) ≡ header ++ (flat_map written ys ++ m) = sym (append_assoc header (flat_map written xs) l) ∙ sym h.bytes ∙ k.bytes ∙ append_assoc header (flat_map written ys) m in
      ⊎_elim (λ same. same)
      (λ w. absurd (⊎_elim (not_ahead xs ys l m v r k a) (not_ahead ys xs m l u q h b) w))
      (compare xs ys l m h.proper k.proper (append_cancel_left header _ _ bytes))

  -- what two loadings that opened the file have in common
  one_end : (xs ys : List Entry) (l m : List ℕ) (u v : List Road) (r q : Result (Unit {0}) FileFault) → Fills file t xs l u → Fills file t ys m v → Halt (length t) xs l r → Halt (length t) ys m q → (r ≡ q) × (xs ≡ ys) × (l ≡ m) × (u ≡ v)
  one_end xs ys l m u v r q h k a b =
      let (es, left) = one_reading xs ys l m u v r q h k a b in (
        one_halt (length t) xs l r q a (subst (λ w. Halt (length t) xs w q) (sym left) (subst (λ w. Halt (length t) w m q) (sym es) b)),
        es,
        left,
        h.table ∙ ap (λ w. roads_of w ++ drop (count_of w) t) es ∙ sym k.table,
      )

  -- a file whose records were read was opened
  opened : (xs : List Entry) (l : List ℕ) (u : List Road) (f : FileFault) (o : ℕ) → Fills file t xs l u → Unopened file f o → ⊥
  opened xs l u fault.Letters o h (why, _) =
      ⊎_elim (λ small. omega (arith, ap length h.bytes)) (λ other. other (ap (take 3) h.bytes)) why
  opened xs l u fault.Version o h (_, _, other, _) = other (ap (λ b. take 2 (drop 3 b)) h.bytes)
  opened xs l u fault.Cut o h w = w
  opened xs l u fault.Form o h w = w
  opened xs l u fault.Extra o h w = w
  opened xs l u (fault.Draft f) o h w = w

  -- the two ways in which a file is not opened
  Lettered : Type 0
  Lettered = (5 ≤ length file) × (take 3 file ≡ letters)

  ways : (f : FileFault) (o : ℕ) → Unopened file f o → ((f ≡ fault.Letters) × (o ≡ 0) × (Lettered → ⊥)) ⊎ ((f ≡ fault.Version) × (o ≡ 3) × Lettered)
  unfolding Lettered
  ways fault.Letters o (why, at-o) = inl (refl, at-o, λ (long, same). ⊎_elim (λ small. omega arith) (λ other. other same) why)
  ways fault.Version o (long, same, _, at-o) = inr (refl, at-o, (long, same))
  ways fault.Cut o w = absurd w
  ways fault.Form o w = absurd w
  ways fault.Extra o w = absurd w
  ways (fault.Draft f) o w = absurd w

  one_refusal : (f g : FileFault) (o p : ℕ) → Unopened file f o → Unopened file g p → (f ≡ g) × (o ≡ p)
  one_refusal f g o p a b =
      ⊎_elim
      (λ (e, z, no_such). ⊎_elim (λ (e', z', _). (e ∙ sym e', z ∙ sym z')) (λ (_, _, such). absurd (no_such such)) (ways g p b))
      (λ (e, z, such). ⊎_elim (λ (_, _, no_such). absurd (no_such such)) (λ (e', z', _). (e ∙ sym e', z ∙ sym z')) (ways g p b))
      (ways f o a)

  whole_halts : (n : Network) (u : List Road) (w : Whole file t n u) → Halt (length t) w.entries (written finish) (Ok tt)
  whole_halts n u w = at finish (finish_leads (length t) w.entries (written finish) refl) (inr (inr (refl, w.some, refl)))

  broken_halts : (f : FileFault) (o : ℕ) (u : List Road) (b : Broken file t f o u) → Halt (length t) b.before b.left (Err f)
  broken_halts f o u b = halts (length t) b.before b.left f b.stops

  not_both : (n : Network) (f : FileFault) (o : ℕ) (u v : List Road) → Whole file t n u → (Unopened file f o × (v ≡ t)) ⊎ Broken file t f o v → ⊥
  not_both n f o u v w e =
      ⊎_elim (λ (un, _). opened w.entries (written finish) u f o w.fills un)
      (λ b.
      let (differ, _, _, _) = one_end w.entries b.before (written finish) b.left u v (Ok tt) (Err f) w.fills b.fills (whole_halts n u w) (broken_halts f o v b) in
      let z : ◌≡◌ {A = ℕ} 0 1 = cc in
      omega arith)
      e

  both_broken : (f g : FileFault) (o p : ℕ) (u v : List Road) → Broken file t f o u → Broken file t g p v → ((f ≡ g) × (o ≡ p)) × (u ≡ v)
  both_broken f g o p u v a b =
      let (same, _, left, tables) = one_end a.before b.before a.left b.left u v (Err f) (Err g) a.fills b.fills (broken_halts f o u a) (broken_halts g p v b) in
      let is : f ≡ g = cc in
      ((is, a.told ∙ ap (λ x. place_of x file a.left) is ∙ ap (place_of g file) left ∙ sym b.told), tables)

pub one_outcome_lem : OneOutcome
one_outcome_lem file t (Ok n) (Ok m) u v a b =
    let (_, es, _, tables) = one_end file t a.entries b.entries (written finish) (written finish) u v (Ok tt) (Ok tt) a.fills b.fills (whole_halts file t n u a) (whole_halts file t m v b) in
    ((a.places ∙ ap places_of es ∙ sym b.places, a.roads ∙ ap count_of es ∙ sym b.roads), tables)
one_outcome_lem file t (Ok n) (Err g) u v a b = absurd (not_both file t n g.fault g.offset u v a b)
one_outcome_lem file t (Err f) (Ok m) u v a b = absurd (not_both file t m f.fault f.offset v u b a)
one_outcome_lem file t (Err f) (Err g) u v a b =
    ⊎_elim
    (λ (un, eu). ⊎_elim
    (λ (un', ev). (one_refusal file t f.fault g.fault f.offset g.offset un un', eu ∙ sym ev))
    (λ b'. absurd (opened file t b'.before b'.left v f.fault f.offset b'.fills un))
    b)
    (λ a'. ⊎_elim
    (λ (un', _). absurd (opened file t a'.before a'.left u g.fault g.offset a'.fills un'))
    (λ b'. both_broken file t f.fault g.fault f.offset g.offset u v a' b')
    b)
    a
