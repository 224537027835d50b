-- What a table holds after a text is written to it.
use Rattle.std.specs.Prelude.{◌≡◌, ℕ, ◌-◌, ◌≤◌, List, ◌++◌, length, replicate}

-- the table, of so many bytes, holds the text in its first n bytes, and zeros behind it
pub record Written (size : ℕ) (out : List ℕ) (n : ℕ) (table : List ℕ) : Type 0 where
  pub count : n ≡ length out
  pub fits : n ≤ size
  pub bytes : table ≡ out ++ replicate (size - length out) 0
