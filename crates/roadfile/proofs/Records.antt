-- The bytes of a record.
use Rattle.std.proofs.Common.{◌≡◌, ℕ, ◌+◌, ◌*◌, ◌≤◌, List, [], ◌∷◌, length, drop, refl, ap, ◌∙◌, arith, length-append}
use Rattle.std.specs.List.{flat_map}
use Rattle.roadfile.specs.Format.{Entry, road, little, written, Proper}
use Rattle.roadfile.specs.Reading.{Leads}

marks_length : (ms : List ℕ) → length (flat_map (little 4) ms) ≡ 4 * length ms
marks_length [] = refl
marks_length (m ∷ ms) = let more = marks_length ms in omega arith

-- a proper road has 20 bytes behind its head
pub road_length : (s e : ℕ) (ms : List ℕ) → Proper (road s e ms) → length (written (road s e ms)) ≡ 22
road_length s e ms (_, _, four, _) = let long = marks_length ms in omega arith

-- the record that begins the bytes is not longer than they are
pub leads_length : (left : List ℕ) (e : Entry) → Leads left e → length (written e) ≤ length left
leads_length left e h =
    let whole : length left ≡ length (written e) + length (drop (length (written e)) left) = ap length h.bytes ∙ length-append (written e) (drop (length (written e)) left) in
    omega arith
