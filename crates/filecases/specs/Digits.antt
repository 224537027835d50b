-- Hexadecimal digits.
use Rattle.std.specs.Prelude.{◌≡◌, ℕ, ◌+◌, ◌*◌, ◌<◌, ◌≤◌, ◌⊎◌}

-- the letter c is the digit of the value d: 0 to 9 stand from 48 on, a to f from 97 on
abbrev pub Digit : ℕ → ℕ → Type 0
Digit c d = ((d < 10) × (c ≡ 48 + d)) ⊎ ((10 ≤ d) × (d < 16) × (c ≡ 87 + d))

-- the letters h and l are the two digits of b
abbrev pub Digits : ℕ → ℕ → ℕ → Type 0
Digits h l b = (x : ℕ) × (y : ℕ) × Digit h x × Digit l y × (b ≡ 16 * x + y)
