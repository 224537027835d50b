use Rattle.std.proofs.Common.{◌≡◌, ℕ, ◌+◌, ◌/◌, ◌%◌, ◌^◌, ◌<◌, ◌≤◌, length, decimal, ap, ◌∙◌, arith, lit<}
use Rattle.std.proofs.lemmas.Fmt.{decimal_step, length-decimal-le}
use Rattle.std.proofs.lemmas.List.{length_push}

-- a number above nine has one digit more than its tenth
pub length_decimal_more : (n : ℕ) → 10 ≤ n → n < 2 ^ 64 → length (decimal n) ≡ length (decimal (n / 10)) + 1
length_decimal_more n large fits = ap length (decimal_step n large fits) ∙ length_push (decimal (n / 10)) (48 + n % 10)

-- how many digits a number of 32 bits has at most
pub length_decimal_32 : (n : ℕ) → n < 2 ^ 32 → length (decimal n) ≤ 10
length_decimal_32 n fits = length-decimal-le 10 n (lit< tt) (omega arith) (omega arith)

-- how many digits a number of 64 bits has at most
pub length_decimal_64 : (n : ℕ) → n < 2 ^ 64 → length (decimal n) ≤ 20
length_decimal_64 n fits = length-decimal-le 20 n (lit< tt) (omega arith) fits
