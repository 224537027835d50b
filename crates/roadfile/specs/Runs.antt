-- What the records of a reader are, taken together.
use Rattle.std.specs.Prelude.{◌≡◌, ℕ, ◌<◌, List, [], ◌∷◌, ◌++◌, length, take, Some, Ok, slice_index_or}
use Rattle.std.specs.List.{flat_map}
use Rattle.roadfile.specs.declared.reader.Item.{Item}
use Rattle.roadfile.specs.declared.reader.Reader.{Reader}
use Rattle.roadfile.specs.Format.{entry, header, written}
use Rattle.roadfile.specs.Reading.{Opened, Handed, left_of, offset_of}

-- the reader s hands out the items, call by call, and is then the reader t
pub data Run : Reader → List Item → Reader → Type 0 where
  none : {s : Reader} → Run s [] s
  more : {s t u : Reader} {i : Item} {is : List Item} → Handed s (Ok (Some i)) t → Run t is u → Run s (i ∷ is) u

-- the records of the items as they are written, one after the other
abbrev pub written_all : List Item → List ℕ
written_all is = flat_map (λ i. written (entry i.record)) is

-- nothing of the file is skipped and nothing invented: its header and the records that were handed out, as they are written,
-- are the file up to where the reader stands; each record stands where its offset says
pub record Faithful (file : List ℕ) (is : List Item) (t : Reader) : Type 0 where
  pub bytes : file ≡ (header ++ written_all is) ++ left_of t
  pub stands : offset_of t ≡ length (header ++ written_all is)
  pub offsets : (k : ℕ) (d : Item) → k < length is → (slice_index_or is k d).offset ≡ length (header ++ written_all (take k is))

-- so it is with every file that is opened, however many of its records are handed out
abbrev pub ReadingIsFaithful : Type 0
ReadingIsFaithful = (file : List ℕ) (s : Reader) (is : List Item) (t : Reader) → Opened file (Ok s) → Run s is t → Faithful file is t
