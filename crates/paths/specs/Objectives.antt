-- What a path is worth in plain numbers: the sum, the least or the greatest of one mark of its roads.
use Rattle.std.specs.Prelude.{ℕ, ◌+◌, ◌<◌, ◌≤◌, min, max, false, List, [], ◌∷◌, map, slice_index, slice_index_or}
use Rattle.roads.specs.declared.road.Road.{Road}

-- the mark of that column of the road of number i; 0 where there is no such road or mark
abbrev pub mark_of : List Road → ℕ → ℕ → ℕ
mark_of roads column i = slice_index (slice_index_or roads i (record { start = 0; end = 0; marks = []; «open» = false })).marks column

-- the marks of that column along a path
abbrev pub marks_on : List Road → ℕ → List ℕ → List ℕ
marks_on roads column path = map (mark_of roads column) path

-- the sum of numbers
abbrev pub sum : List ℕ → ℕ
sum [] = 0
sum (x ∷ xs) = x + sum xs

-- the greatest of numbers; 0 where there is none
abbrev pub greatest : List ℕ → ℕ
greatest [] = 0
greatest (x ∷ xs) = max x (greatest xs)

-- the least of x and further numbers
abbrev pub least_of : ℕ → List ℕ → ℕ
least_of x [] = x
least_of x (y ∷ ys) = min x (least_of y ys)

-- the least of numbers; 0 where there is none
abbrev pub least : List ℕ → ℕ
least [] = 0
least (x ∷ xs) = least_of x xs

-- what is wanted of a path, for the marks of one column: that their sum is small, that the greatest of them is small, or that the least of them is great
pub data Objective : Type 0 where
  minsum : ℕ → Objective
  minmax : ℕ → Objective
  maxmin : ℕ → Objective

-- the value of a path for an objective
abbrev pub value : Objective → List Road → List ℕ → ℕ
value (minsum column) roads path = sum (marks_on roads column path)
value (minmax column) roads path = greatest (marks_on roads column path)
value (maxmin column) roads path = least (marks_on roads column path)

-- x is a better value than y
abbrev pub Better : Objective → ℕ → ℕ → Type 0
Better (minsum column) x y = x < y
Better (minmax column) x y = x < y
Better (maxmin column) x y = y < x

-- x is a value not worse than y
abbrev pub NoWorse : Objective → ℕ → ℕ → Type 0
NoWorse (minsum column) x y = x ≤ y
NoWorse (minmax column) x y = x ≤ y
NoWorse (maxmin column) x y = y ≤ x
