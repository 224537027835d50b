-- The sheets of a book, whose rows follow one another in the row table.
use Rattle.std.specs.Prelude.{◌≡◌, ℕ, ◌+◌, ◌<◌, ◌≤◌, List, [], ◌∷◌, length, take, slice_index_or}
use Rattle.criteria.specs.Meaning.{most_roads}
use Rattle.rows.specs.declared.sheet.Sheet.{Sheet}

-- how many rows the sheets have together
abbrev pub total : List Sheet → ℕ
total [] = 0
total (s ∷ sheets) = s.len + total sheets

-- each sheet starts where the one before it ended, the first at row 0
abbrev pub Following : List Sheet → Type 0
Following sheets = (i : ℕ) (d : Sheet) → i < length sheets → (slice_index_or sheets i d).start ≡ total (take i sheets)

-- each starts at a place, where there are so many
abbrev pub Rooted : ℕ → List Sheet → Type 0
Rooted places sheets = (i : ℕ) (d : Sheet) → i < length sheets → (slice_index_or sheets i d).origin < places

-- no row of a sheet may have more roads than a value is tested for
abbrev pub Reaching : List Sheet → Type 0
Reaching sheets = (i : ℕ) (d : Sheet) → i < length sheets → (slice_index_or sheets i d).reach ≤ most_roads
