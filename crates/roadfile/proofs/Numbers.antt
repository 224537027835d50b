-- Little-endian numbers and the bytes that they are read from.
use Rattle.std.proofs.Common.{◌≡◌, ℕ, zero, suc, ◌+◌, ◌*◌, ◌/◌, ◌%◌, ◌<◌, ◌≤◌, List, [], ◌∷◌, ◌++◌, length, get_or, take, drop, sym, ap, ◌∙◌, subst, w16, w32, arith, take-append-drop}
use Rattle.std.proofs.lemmas.List.{drop_more, length-take-le}
use Rattle.std.specs.Int.{from_le_bytes, to_le_bytes}
use Rattle.std.proofs.lemmas.Nat.{le_bytes_2, le_bytes_4}
use Rattle.roadfile.specs.Format.{little}

-- bytes that were cut into a number and what is behind it
joined : (l front rest : List ℕ) (k n : ℕ) → front ≡ take k l → rest ≡ drop k l → little k n ≡ front → l ≡ little k n ++ rest
joined l front rest k n first behind is =
    sym (take-append-drop k l) ∙ ap (λ x. x ++ drop k l) (sym first ∙ sym is) ∙ ap (λ x. little k n ++ x) (sym behind)

-- a number of 32 bits, as std spells its bytes
pub spelled : (n : ℕ) → little 4 n ≡ to_le_bytes w32 n
spelled n =
    let third : n / 256 / 256 ≡ n / 65536 = omega arith in
    let fourth : n / 256 / 256 / 256 ≡ n / 16777216 = omega arith in
    grind (arith, third, fourth)

-- the first bytes are bytes
low_front : (l : List ℕ) (k : ℕ) → ((i : ℕ) → get_or l i 0 < 256) → (i : ℕ) → get_or (take k l) i 0 < 256
low_front l zero low i = omega arith
low_front [] (suc k) low i = omega arith
low_front (x ∷ l) (suc k) low zero = low zero
low_front (x ∷ l) (suc k) low (suc i) = low_front l k (λ j. low (suc j)) i

pub little_two : (l front rest : List ℕ) (n : ℕ) → front ≡ take 2 l → rest ≡ drop 2 l → 2 ≤ length l → ((i : ℕ) → get_or l i 0 < 256) → n ≡ from_le_bytes w16 front → l ≡ little 2 n ++ rest
little_two l front rest n first behind long low is =
    let size : length front ≡ 2 = ap length first ∙ length-take-le 2 l long in
    joined l front rest 2 n first behind (le_bytes_2 front n size (subst (λ x. (i : ℕ) → get_or x i 0 < 256) (sym first) (low_front l 2 low)) is)

pub little_four : (l front rest : List ℕ) (n : ℕ) → front ≡ take 4 l → rest ≡ drop 4 l → 4 ≤ length l → ((i : ℕ) → get_or l i 0 < 256) → n ≡ from_le_bytes w32 front → l ≡ little 4 n ++ rest
little_four l front rest n first behind long low is =
    let size : length front ≡ 4 = ap length first ∙ length-take-le 4 l long in
    let bytes : to_le_bytes w32 n ≡ front = le_bytes_4 front n size (subst (λ x. (i : ℕ) → get_or x i 0 < 256) (sym first) (low_front l 4 low)) is in
    joined l front rest 4 n first behind (spelled n ∙ bytes)

-- one byte more in front of a number
pub little_more : (l : List ℕ) (at k n b : ℕ) → at < length l → get_or l at 0 ≡ b → n % 256 ≡ b → drop (at + 1) l ≡ little k (n / 256) ++ drop (at + 1 + k) l → drop at l ≡ little (suc k) n ++ drop (at + (k + 1)) l
little_more l at k n b h e m rest =
    let end : at + 1 + k ≡ at + (k + 1) = omega arith in
    drop_more l at 0 h ∙ ap (λ x. x ∷ drop (at + 1) l) (e ∙ sym m) ∙ ap (λ xs. n % 256 ∷ xs) (rest ∙ ap (λ j. little k (n / 256) ++ drop j l) end)

-- the number of two bytes that stand at an offset of any list of numbers
pub little_two_at : (l : List ℕ) (at n a b : ℕ) → at + 2 ≤ length l → get_or l at 0 ≡ a → get_or l (at + 1) 0 ≡ b → a < 256 → b < 256 → n ≡ a + b * 256 → drop at l ≡ little 2 n ++ drop (at + 2) l
little_two_at l at n a b h ea eb la lb e =
    little_more l at 1 n a (omega arith) ea (omega arith)
    (little_more l (at + 1) 0 (n / 256) b (omega arith) eb (omega arith) (ap (λ j. drop j l) (omega arith)))

-- that of four
pub little_four_at : (l : List ℕ) (at n a b c d : ℕ) → at + 4 ≤ length l → get_or l at 0 ≡ a → get_or l (at + 1) 0 ≡ b → get_or l (at + 2) 0 ≡ c → get_or l (at + 3) 0 ≡ d → a < 256 → b < 256 → c < 256 → d < 256 → n ≡ a + b * 256 + c * 65536 + d * 16777216 → drop at l ≡ little 4 n ++ drop (at + 4) l
little_four_at l at n a b c d h ea eb ec ed la lb lc ld e =
    let third : get_or l (at + 1 + 1) 0 ≡ c = ap (λ j. get_or l j 0) (omega arith) ∙ ec in
    let fourth : get_or l (at + 1 + 1 + 1) 0 ≡ d = ap (λ j. get_or l j 0) (omega arith) ∙ ed in
    little_more l at 3 n a (omega arith) ea (omega arith)
    (little_more l (at + 1) 2 (n / 256) b (omega arith) eb (omega arith)
    (little_more l (at + 1 + 1) 1 (n / 256 / 256) c (omega arith) third (omega arith)
    (little_more l (at + 1 + 1 + 1) 0 (n / 256 / 256 / 256) d (omega arith) fourth (omega arith) (ap (λ j. drop j l) (omega arith)))))
