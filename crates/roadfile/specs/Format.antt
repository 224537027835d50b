-- The format of a road file: what its records are, and how each is written.
use Rattle.std.specs.Prelude.{◌≡◌, ℕ, zero, suc, ◌+◌, ◌/◌, ◌%◌, ◌^◌, ◌<◌, ◌≤◌, Bool, true, false, ◌⊎◌, List, [], ◌∷◌, ◌++◌, length, codes, slice_index}
use Rattle.std.specs.List.{flat_map, AllByRecursion}
use Rattle.roadfile.specs.declared.record.Record.{Record}
use Rattle.roadfile.specs.declared.record.Record.TheVariants.{Place, Road, Remark, End}

-- what a record says
pub data Entry : Type 0 where
  -- a place of this name
  place : List ℕ → Entry
  -- a road: the numbers of its start and its end, and its marks
  road : ℕ → ℕ → List ℕ → Entry
  -- a remark of these bytes
  remark : List ℕ → Entry
  -- nothing follows
  finish : Entry

-- whether it is the end record
abbrev pub ends : Entry → Bool
ends finish = true
ends (place name) = false
ends (road start end marks) = false
ends (remark text) = false

-- a number as k bytes, the lowest first
abbrev pub little : ℕ → ℕ → List ℕ
little zero n = []
little (suc k) n = n % 256 ∷ little k (n / 256)

-- the kind byte of a record
abbrev pub kind : Entry → ℕ
kind finish = 0
kind (place name) = 1
kind (road start end marks) = 2
kind (remark text) = 3

-- the body of a record
abbrev pub body : Entry → List ℕ
body finish = []
body (place name) = name
body (road start end marks) = little 2 start ++ little 2 end ++ flat_map (little 4) marks
body (remark text) = text

-- a record as it stands in a file: its kind, the length of its body, its body
abbrev pub written : Entry → List ℕ
written e = kind e ∷ length (body e) ∷ body e

-- what a record may say: a name has 1 to 32 bytes, the numbers of places have 16 bits,
-- a road has four marks of 32 bits, and a remark has at most 255 bytes
abbrev pub Proper : Entry → Type 0
Proper finish = Unit {0}
Proper (place name) = (1 ≤ length name) × (length name ≤ 32)
Proper (road start end marks) = (start < 2 ^ 16) × (end < 2 ^ 16) × (length marks ≡ 4) × AllByRecursion (λ m. m < 2 ^ 32) marks
Proper (remark text) = length text ≤ 255

-- the kinds with the lengths that each may have
abbrev pub Allowed : ℕ → ℕ → Type 0
Allowed k n = ((k ≡ 0) × (n ≡ 0)) ⊎ ((k ≡ 1) × (1 ≤ n) × (n ≤ 32)) ⊎ ((k ≡ 2) × (n ≡ 20)) ⊎ (k ≡ 3)

-- the bytes that are left end inside a record: in its head, or in the body of an allowed head
abbrev pub Short : List ℕ → Type 0
Short left = (length left < 2) ⊎ ((2 ≤ length left) × Allowed (slice_index left 0) (slice_index left 1) × (length left < 2 + slice_index left 1))

-- the bytes that are left begin with a head that is not allowed
abbrev pub Odd : List ℕ → Type 0
Odd left = (2 ≤ length left) × (Allowed (slice_index left 0) (slice_index left 1) → ⊥)

-- what a file begins with: the letters CRN, and the version 1 in 16 bits
abbrev pub letters : List ℕ
letters = codes "CRN"

abbrev pub header : List ℕ
header = letters ++ little 2 1

-- what a record of the reader says
abbrev pub entry : Record → Entry
entry (Place name) = place name.now
entry (Road start end marks) = road start end marks
entry (Remark text) = remark text.now
entry End = finish
