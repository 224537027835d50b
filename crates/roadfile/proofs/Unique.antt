-- No record's written form begins another's.
use Rattle.std.proofs.Common.{◌≡◌, ℕ, ◌^◌, ◌<◌, List, [], ◌∷◌, ◌++◌, length, take, drop, sym, refl, ap, ◌∙◌, w16, w32, arith}
use Rattle.std.specs.List.{flat_map, AllByRecursion}
use Rattle.std.specs.Int.{from_le_bytes}
use Rattle.std.proofs.lemmas.List.{take_at, drop_at}
use Rattle.std.proofs.lemmas.Nat.{from_le_bytes-to_le_bytes_2, from_le_bytes-to_le_bytes_4}
use Rattle.roadfile.specs.Format.{Entry, place, road, remark, finish, little, kind, body, written, Proper}
use Rattle.roadfile.proofs.Numbers.{spelled}

-- a number of 16 bits, and one of 32, is known by its bytes
two_same : (m n : ℕ) → m < 2 ^ 16 → n < 2 ^ 16 → little 2 m ≡ little 2 n → m ≡ n
two_same m n hm hn e = sym (from_le_bytes-to_le_bytes_2 m hm) ∙ ap (from_le_bytes w16) e ∙ from_le_bytes-to_le_bytes_2 n hn

four_same : (m n : ℕ) → m < 2 ^ 32 → n < 2 ^ 32 → little 4 m ≡ little 4 n → m ≡ n
four_same m n hm hn e =
    sym (from_le_bytes-to_le_bytes_4 m hm) ∙ ap (from_le_bytes w32) (sym (spelled m) ∙ e ∙ spelled n) ∙ from_le_bytes-to_le_bytes_4 n hn

marks_same : (ms ns : List ℕ) → length ms ≡ length ns → AllByRecursion (λ m. m < 2 ^ 32) ms → AllByRecursion (λ m. m < 2 ^ 32) ns → flat_map (little 4) ms ≡ flat_map (little 4) ns → ms ≡ ns
marks_same [] [] l p q e = refl
marks_same [] (n ∷ ns) l p q e = absurd (omega arith)
marks_same (m ∷ ms) [] l p q e = absurd (omega arith)
marks_same (m ∷ ms) (n ∷ ns) l (pm, p) (qn, q) e =
    let one = four_same m n pm qn (ap (take 4) e) in
    let more = marks_same ms ns (omega arith) p q (ap (drop 4) e) in
    ap (λ x. x ∷ ms) one ∙ ap (λ xs. n ∷ xs) more

road_same : (s e s' e' : ℕ) (ms ms' : List ℕ) → Proper (road s e ms) → Proper (road s' e' ms') → body (road s e ms) ≡ body (road s' e' ms') → road s e ms ≡ road s' e' ms'
road_same s e s' e' ms ms' (hs, he, four, p) (hs', he', four', p') same =
    let starts = two_same s s' hs hs' (ap (take 2) same) in
    let finishes = two_same e e' he he' (ap (λ l. take 2 (drop 2 l)) same) in
    let marks = marks_same ms ms' (four ∙ sym four') p p' (ap (drop 4) same) in
    cc

-- the kind and the body of a proper record say which it is
same_entry : (x y : Entry) → Proper x → Proper y → kind x ≡ kind y → body x ≡ body y → x ≡ y
same_entry (place a) (place b) p q k e = ap place e
same_entry (road s e ms) (road s' e' ms') p q k same = road_same s e s' e' ms ms' p q same
same_entry (remark a) (remark b) p q k e = ap remark e
same_entry finish finish p q k e = refl
same_entry (place a) (road s e ms) p q k same = absurd (omega arith)
same_entry (place a) (remark b) p q k same = absurd (omega arith)
same_entry (place a) finish p q k same = absurd (omega arith)
same_entry (road s e ms) (place b) p q k same = absurd (omega arith)
same_entry (road s e ms) (remark b) p q k same = absurd (omega arith)
same_entry (road s e ms) finish p q k same = absurd (omega arith)
same_entry (remark a) (place b) p q k same = absurd (omega arith)
same_entry (remark a) (road s e ms) p q k same = absurd (omega arith)
same_entry (remark a) finish p q k same = absurd (omega arith)
same_entry finish (place b) p q k same = absurd (omega arith)
same_entry finish (road s e ms) p q k same = absurd (omega arith)
same_entry finish (remark b) p q k same = absurd (omega arith)

-- two records that begin the same bytes are one, and so is what follows
pub same_first : (x y : Entry) (r q : List ℕ) → Proper x → Proper y → written x ++ r ≡ written y ++ q → (x ≡ y) × (r ≡ q)
same_first x y r q p p' e =
    let k : kind x ≡ kind y = cc in
    let l : length (body x) ≡ length (body y) = cc in
    let rest : body x ++ r ≡ body y ++ q = cc in
    let b : body x ≡ body y = sym (take_at (body x) r (length (body y)) l) ∙ ap (take (length (body y))) rest ∙ take_at (body y) q (length (body y)) refl in
    let tail : r ≡ q = sym (drop_at (body x) r (length (body y)) l) ∙ ap (drop (length (body y))) rest ∙ drop_at (body y) q (length (body y)) refl in
    (same_entry x y p p' k b, tail)
