-- A reader hands out the file, record by record.
use Rattle.std.proofs.Common.{◌≡◌, ℕ, zero, suc, ◌<◌, List, [], ◌∷◌, ◌++◌, length, get_or, take, sym, refl, ap, ◌∙◌, append_assoc, append-nil, arith, length-append}
use Rattle.roadfile.specs.declared.reader.Item.{Item}
use Rattle.roadfile.specs.declared.reader.Reader.{Reader}
use Rattle.roadfile.specs.Format.{entry, header, written}
use Rattle.roadfile.specs.Reading.{left_of, offset_of}
use Rattle.roadfile.specs.Runs.{Run, none, more, written_all, ReadingIsFaithful}

-- the same, of a reader that stands behind the bytes `front` of the file
record From (file front : List ℕ) (is : List Item) (t : Reader) : Type 0 where
  bytes : file ≡ (front ++ written_all is) ++ left_of t
  size : t.size ≡ length file
  offsets : (k : ℕ) (d : Item) → k < length is → (get_or is k d).offset ≡ length (front ++ written_all (take k is))

-- where a reader stands
offset_at : (file front : List ℕ) (s : Reader) → file ≡ front ++ left_of s → s.size ≡ length file → offset_of s ≡ length front
offset_at file front s split size =
    let whole = ap length split ∙ length-append front (left_of s) in
    omega arith

-- the offsets of the items, with one more item in front
offsets_more : (front said : List ℕ) (i : Item) (is : List Item) → said ≡ written (entry i.record) → i.offset ≡ length front → ((k : ℕ) (d : Item) → k < length is → (get_or is k d).offset ≡ length ((front ++ said) ++ written_all (take k is))) → (k : ℕ) (d : Item) → k < length (i ∷ is) → (get_or (i ∷ is) k d).offset ≡ length (front ++ written_all (take k (i ∷ is)))
offsets_more front said i is e at rest zero d h = at ∙ ap length (sym (append-nil front))
offsets_more front said i is e at rest (suc k) d h =
    rest k d (omega arith) ∙ ap length (append_assoc front said (written_all (take k is))) ∙ ap (λ l. length (front ++ (l ++ written_all (take k is)))) e

onward : (file front : List ℕ) (s : Reader) (is : List Item) (t : Reader) → file ≡ front ++ left_of s → s.size ≡ length file → Run s is t → From file front is t
onward file front s [] t split size none = record {
  bytes = split ∙ ap (λ l. l ++ left_of s) (sym (append-nil front));
  size = size;
  offsets = λ k d h. absurd (omega arith);
}
onward file front s (i ∷ is) t split size (more {t = u} (on, leads, at, rest, same, stop) run) =
    let said = written (entry i.record) in
    let next : file ≡ (front ++ said) ++ left_of u = split ∙ ap (λ l. front ++ l) (leads.bytes ∙ ap (λ l. said ++ l) (sym rest)) ∙ sym (append_assoc front said (left_of u)) in
    let on_from = onward file (front ++ said) u is t next (same ∙ size) run in
    record {
      bytes = on_from.bytes ∙ ap (λ l. l ++ left_of t) (append_assoc front said (written_all is));
      size = on_from.size;
      offsets = offsets_more front said i is refl (at ∙ offset_at file front s split size) on_from.offsets;
    }

pub reading_is_faithful_lem : ReadingIsFaithful
reading_is_faithful_lem file s is t (split, size, not_done) run =
    let all = onward file header s is t split size run in
    record { bytes = all.bytes; stands = offset_at file (header ++ written_all is) t all.bytes all.size; offsets = all.offsets }
