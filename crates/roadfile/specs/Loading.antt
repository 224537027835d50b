-- What a loading makes of a road file.
use Rattle.std.specs.Prelude.{◌≡◌, ℕ, suc, ◌+◌, ◌-◌, ◌<◌, ◌≤◌, true, false, ◌⊎◌, List, [], ◌∷◌, ◌++◌, length, take, drop, Ok, Err, Result, slice_index_or}
use Rattle.std.specs.List.{flat_map, AllByRecursion}
use Rattle.roads.specs.Drafts.{Placed, Laid, ClosingRefused, Closed}
use Rattle.roads.specs.declared.draft.Draft.{Draft}
use Rattle.roads.specs.declared.fault.DraftFault.{DraftFault}
use Rattle.roads.specs.declared.fault.DraftFault.TheVariants.{UnknownPlace, PlacesFull, RoadsFull, NoPlace, ForeignTable}
use Rattle.roads.specs.declared.network.Network.{Network}
use Rattle.roads.specs.declared.road.Road.{Road}
use Rattle.roadfile.specs.declared.fault.FileFault.{FileFault}
use Rattle.roadfile.specs.declared.fault.FileFault.TheVariants as fault
use Rattle.roadfile.specs.declared.fault.LoadFault.{LoadFault}
use Rattle.roadfile.specs.Format.{Entry, place, road, remark, finish, header, written, ends, Proper, Short, Odd}
use Rattle.roadfile.specs.Reading.{Leads, Unopened}

-- how many places the entries add
abbrev pub places_of : List Entry → ℕ
places_of [] = 0
places_of (place name ∷ es) = suc (places_of es)
places_of (road start end marks ∷ es) = places_of es
places_of (remark text ∷ es) = places_of es
places_of (finish ∷ es) = places_of es

-- the roads that the entries add, in their order, all open
abbrev pub roads_of : List Entry → List Road
roads_of [] = []
roads_of (place name ∷ es) = roads_of es
roads_of (road s e m ∷ es) = record { start = s; end = e; marks = m; «open» = true } ∷ roads_of es
roads_of (remark text ∷ es) = roads_of es
roads_of (finish ∷ es) = roads_of es

-- how many roads
abbrev pub count_of : List Entry → ℕ
count_of es = length (roads_of es)

-- after the entries es, the entry e can be added to a draft over a road table of so much room
abbrev pub Addable : ℕ → List Entry → Entry → Type 0
Addable room es (place name) = places_of es < 2048
Addable room es (road start end marks) = (start < places_of es) × (end < places_of es) × (count_of es < 16384) × (count_of es < room)
Addable room es (remark text) = Unit {0}
Addable room es finish = Unit {0}

-- after the entries es, the entry e is refused by the draft, by the first of its faults that applies
abbrev pub Refused : ℕ → List Entry → Entry → DraftFault → Type 0
Refused room es (place name) f = (f ≡ PlacesFull) × (places_of es ≡ 2048)
Refused room es (road start end marks) UnknownPlace = (places_of es ≤ start) ⊎ (places_of es ≤ end)
Refused room es (road start end marks) RoadsFull = (start < places_of es) × (end < places_of es) × ((count_of es ≡ 16384) ⊎ (count_of es ≡ room))
Refused room es (road start end marks) PlacesFull = ⊥
Refused room es (road start end marks) NoPlace = ⊥
Refused room es (road start end marks) ForeignTable = ⊥
Refused room es (remark text) f = ⊥
Refused room es finish f = ⊥

-- what becomes of a draft's answer where the draft is filled from a file: its fault stands unaltered inside the file's
abbrev pub carried : Result ℕ DraftFault → Result (Unit {0}) FileFault
carried (Ok n) = Ok tt
carried (Err f) = Err (fault.Draft f)

-- adding the entry to the draft d over the table t answers r, and leaves the draft d' and the table t'
abbrev pub Added : Entry → Draft → List Road → Result (Unit {0}) FileFault → Draft → List Road → Type 0
Added (place name) d t r d' t' = (q : Result ℕ DraftFault) × (Placed d q d' × (t' ≡ t) × (r ≡ carried q))
Added (road start end marks) d t r d' t' = (q : Result ℕ DraftFault) × (Laid d t start end marks q d' t' × (r ≡ carried q))
Added (remark text) d t r d' t' = (r ≡ Ok tt) × (d' ≡ d) × (t' ≡ t)
Added finish d t r d' t' = (r ≡ Ok tt) × (d' ≡ d) × (t' ≡ t)

-- the same, of an entry that stands at this offset
abbrev pub AddedAt : ℕ → Entry → Draft → List Road → Result (Unit {0}) LoadFault → Draft → List Road → Type 0
AddedAt at e d t (Ok _) d' t' = Added e d t (Ok tt) d' t'
AddedAt at e d t (Err f) d' t' = Added e d t (Err f.fault) d' t' × (f.offset ≡ at)

-- which refusal a closing has where the draft is filled from a file: the draft's, which stands unaltered inside the file's
abbrev pub NotClosed : Draft → List Road → FileFault → Type 0
NotClosed d t fault.Letters = ⊥
NotClosed d t fault.Version = ⊥
NotClosed d t fault.Cut = ⊥
NotClosed d t fault.Form = ⊥
NotClosed d t fault.Extra = ⊥
NotClosed d t (fault.Draft f) = ClosingRefused d t f

-- closing the draft d over the table t, where the end record stands at this offset, answers r and leaves the table t'
abbrev pub ClosedAt : ℕ → Draft → List Road → Result Network LoadFault → List Road → Type 0
ClosedAt at d t (Ok n) t' = Closed d t (Ok n) t'
ClosedAt at d t (Err f) t' = NotClosed d t f.fault × (f.offset ≡ at) × (t' ≡ t)

-- the file is its header, the records es, all proper and none of them the end record, one after the other, and then left;
-- each of them could be added to the draft that those before it had filled;
-- and the table t' holds their roads in front, and behind them what the table t had there
pub record Fills (file : List ℕ) (t : List Road) (es : List Entry) (left : List ℕ) (t' : List Road) : Type 0 where
  pub bytes : file ≡ (header ++ flat_map written es) ++ left
  pub proper : AllByRecursion (λ e. Proper e × (ends e ≡ false)) es
  pub added : (i : ℕ) (d : Entry) → i < length es → Addable (length t) (take i es) (slice_index_or es i d)
  pub table : t' ≡ roads_of es ++ drop (count_of es) t

-- why a loading over a table of so much room stops behind the records es, where left is what follows:
-- left is no record; bytes follow the end record; the draft refuses the next record; there was no place when the end came
abbrev pub Stops : ℕ → List Entry → List ℕ → FileFault → Type 0
Stops room es left fault.Letters = ⊥
Stops room es left fault.Version = ⊥
Stops room es left fault.Cut = Short left
Stops room es left fault.Form = Odd left
Stops room es left fault.Extra = Leads left finish × (2 < length left)
Stops room es left (fault.Draft NoPlace) = (left ≡ written finish) × (places_of es ≡ 0)
Stops room es left (fault.Draft UnknownPlace) = (e : Entry) × (Leads left e × Refused room es e UnknownPlace)
Stops room es left (fault.Draft PlacesFull) = (e : Entry) × (Leads left e × Refused room es e PlacesFull)
Stops room es left (fault.Draft RoadsFull) = (e : Entry) × (Leads left e × Refused room es e RoadsFull)
Stops room es left (fault.Draft ForeignTable) = ⊥

-- where a fault is told, of a file that has left behind the records before the fault:
-- at the kind byte of the record, or at the first byte behind the end record
abbrev pub place_of : FileFault → List ℕ → List ℕ → ℕ
place_of fault.Letters file left = length file - length left
place_of fault.Version file left = length file - length left
place_of fault.Cut file left = length file - length left
place_of fault.Form file left = length file - length left
place_of fault.Extra file left = length file - length left + 2
place_of (fault.Draft f) file left = length file - length left

-- a loading that broke off behind some records
pub record Broken (file : List ℕ) (t : List Road) (f : FileFault) (at : ℕ) (t' : List Road) : Type 0 where
  pub before : List Entry
  pub left : List ℕ
  pub fills : Fills file t before left t'
  pub stops : Stops (length t) before left f
  pub told : at ≡ place_of f file left

-- a loading that came to the end record, and the network that it made
pub record Whole (file : List ℕ) (t : List Road) (n : Network) (t' : List Road) : Type 0 where
  pub entries : List Entry
  pub fills : Fills file t entries (written finish) t'
  pub some : 0 < places_of entries
  pub places : n.places ≡ places_of entries
  pub roads : n.roads ≡ count_of entries

-- loading the file over the road table t answers r and leaves the table t'
abbrev pub Loaded : List ℕ → List Road → Result Network LoadFault → List Road → Type 0
Loaded file t (Ok n) t' = Whole file t n t'
Loaded file t (Err f) t' = (Unopened file f.fault f.offset × (t' ≡ t)) ⊎ Broken file t f.fault f.offset t'
