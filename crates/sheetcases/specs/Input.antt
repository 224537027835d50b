-- The input: road files, each behind its size in four bytes.
use Rattle.std.specs.Prelude.{ℕ, ◌+◌, ◌*◌, List, slice_index}

-- the size that the input begins with, its lowest byte first
abbrev pub size_of : List ℕ → ℕ
size_of input = slice_index input 0 + slice_index input 1 * 256 + slice_index input 2 * 65536 + slice_index input 3 * 16777216
