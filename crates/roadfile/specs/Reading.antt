-- What the reader hands out.
use Rattle.std.specs.Prelude.{◌≡◌, ℕ, ◌-◌, ◌<◌, ◌≤◌, true, false, ◌⊎◌, List, [], ◌++◌, length, take, drop, Some, None, Ok, Err, Option, Result, ◌≢◌}
use Rattle.roadfile.specs.declared.fault.FileFault.{FileFault}
use Rattle.roadfile.specs.declared.fault.FileFault.TheVariants.{Letters, Version, Cut, Form, Extra, Draft}
use Rattle.roadfile.specs.declared.fault.LoadFault.{LoadFault}
use Rattle.roadfile.specs.declared.reader.Reader.{Reader}
use Rattle.roadfile.specs.declared.reader.Item.{Item}
use Rattle.roadfile.specs.declared.record.Record.{Record}
use Rattle.roadfile.specs.Format.{Entry, little, letters, header, written, entry, ends, Proper, Short, Odd}

-- why no record begins the bytes that are left: they end inside a record, or its head is not allowed
abbrev pub Unreadable : List ℕ → FileFault → Type 0
Unreadable left Cut = Short left
Unreadable left Form = Odd left
Unreadable left Letters = ⊥
Unreadable left Version = ⊥
Unreadable left Extra = ⊥
Unreadable left (Draft f) = ⊥

-- the bytes begin with the proper record e
pub record Leads (left : List ℕ) (e : Entry) : Type 0 where
  pub proper : Proper e
  pub bytes : left ≡ written e ++ drop (length (written e)) left

-- the bytes that are left begin with the record, or with none
abbrev pub Begins : List ℕ → Result Record FileFault → Type 0
Begins left (Ok r) = Leads left (entry r)
Begins left (Err f) = Unreadable left f

-- why a file has no first record, and where that is seen: it is too short or has other letters, or it has another version
abbrev pub Unopened : List ℕ → FileFault → ℕ → Type 0
Unopened file Letters at = ((length file < 5) ⊎ (take 3 file ≢ letters)) × (at ≡ 0)
Unopened file Version at = (5 ≤ length file) × (take 3 file ≡ letters) × (take 2 (drop 3 file) ≢ little 2 1) × (at ≡ 3)
Unopened file Cut at = ⊥
Unopened file Form at = ⊥
Unopened file Extra at = ⊥
Unopened file (Draft f) at = ⊥

-- opening a file answers a reader that stands behind the header, or why there is none
abbrev pub Opened : List ℕ → Result Reader LoadFault → Type 0
Opened file (Ok s) = (file ≡ header ++ s.left.now) × (s.size ≡ length file) × (s.done ≡ false)
Opened file (Err f) = Unopened file f.fault f.offset

-- the bytes that a reader has not handed out, and where in its file they begin
abbrev pub left_of : Reader → List ℕ
left_of s = s.left.now

abbrev pub offset_of : Reader → ℕ
offset_of s = s.size - length (left_of s)

-- one call on the reader s answers r and leaves the reader t: the record that begins what is left, with its offset,
-- or why there is none, with the offset where one should begin; and nothing once the end record or a fault has come
abbrev pub Handed : Reader → Result (Option Item) LoadFault → Reader → Type 0
Handed s (Ok None) t = (s.done ≡ true) × (t ≡ s)
Handed s (Ok (Some i)) t =
    (s.done ≡ false) × Leads (left_of s) (entry i.record) × (i.offset ≡ offset_of s) × (left_of t ≡ drop (length (written (entry i.record))) (left_of s)) × (t.size ≡ s.size) × (t.done ≡ ends (entry i.record))
Handed s (Err f) t = (s.done ≡ false) × Unreadable (left_of s) f.fault × (f.offset ≡ offset_of s) × (left_of t ≡ left_of s) × (t.size ≡ s.size) × (t.done ≡ true)

-- whether bytes follow what the reader has handed out
abbrev pub Ended : Reader → Result (Unit {0}) LoadFault → Type 0
Ended s (Ok _) = left_of s ≡ []
Ended s (Err f) = (0 < length (left_of s)) × (f.fault ≡ Extra) × (f.offset ≡ offset_of s)
