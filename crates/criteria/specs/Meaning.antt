-- What a criterion means, and the laws that its meaning keeps.
use Rattle.std.specs.Prelude.{◌≡◌, ℕ, ◌+◌, ◌^◌, ◌<◌, ◌≤◌, ◌⊎◌, List, length, slice_index}

-- the meaning of a criterion whose values are of the type V
pub record Meaning (V : Type 0) : Type 1 where
  -- x is at least as good as y
  pub good : V → V → Type 0
  -- what two values come to, one road or trip after the other
  pub join : V → V → V
  -- the value of the empty trip
  pub unit : V
  -- the value of a road, from its four marks
  pub value : List ℕ → V
  -- the value may be that of k roads
  pub passes : ℕ → V → Type 0

-- x is strictly better than y
pub record Strict {V : Type 0} (good : V → V → Type 0) (x y : V) : Type 0 where
  pub better : good x y
  pub apart : good y x → ⊥

-- law 1: the order is transitive and total, and two values at least as good as each other are one value
pub record Order {V : Type 0} (m : Meaning V) : Type 0 where
  pub trans : (x y z : V) → m.good x y → m.good y z → m.good x z
  pub total : (x y : V) → m.good x y ⊎ Strict m.good y x
  pub same : (x y : V) → m.good x y → m.good y x → x ≡ y

-- law 2: the join is associative, and the unit is neutral on both sides
pub record Joins {V : Type 0} (m : Meaning V) : Type 0 where
  pub assoc : (x y z : V) → m.join (m.join x y) z ≡ m.join x (m.join y z)
  pub left : (x : V) → m.join m.unit x ≡ x
  pub right : (x : V) → m.join x m.unit ≡ x

-- law 3: joining the same value on either side keeps at least as good, so that the worse of two never becomes strictly better
pub record Monotone {V : Type 0} (m : Meaning V) : Type 0 where
  pub before : (x y z : V) → m.good x y → m.good (m.join z x) (m.join z y)
  pub after : (x y z : V) → m.good x y → m.good (m.join x z) (m.join y z)

-- law 4: the unit is at least as good as every value
pub record Best {V : Type 0} (m : Meaning V) : Type 0 where
  pub unit : (x : V) → m.good m.unit x

-- law 5: joining the same value on either side keeps strictly better strictly better
pub record Steadiness {V : Type 0} (m : Meaning V) : Type 0 where
  pub before : (x y z : V) → Strict m.good x y → Strict m.good (m.join z x) (m.join z y)
  pub after : (x y z : V) → Strict m.good x y → Strict m.good (m.join x z) (m.join y z)

-- four marks, each an unsigned number of 32 bits
pub record Marks (marks : List ℕ) : Type 0 where
  pub four : length marks ≡ 4
  pub fit : (k : ℕ) → k < 4 → slice_index marks k < 2 ^ 32

-- the most roads that a value is tested for
abbrev pub most_roads : ℕ
most_roads = 1048576

-- the unit passes for 0, a road's value for 1, and the join of values that pass for j and k for j + k
pub record Tests {V : Type 0} (m : Meaning V) : Type 0 where
  pub none : m.passes 0 m.unit
  pub road : (marks : List ℕ) → Marks marks → m.passes 1 (m.value marks)
  pub join : (j k : ℕ) (x y : V) → j + k ≤ most_roads → m.passes j x → m.passes k y → m.passes (j + k) (m.join x y)

-- the laws that every criterion keeps
pub record Laws {V : Type 0} (m : Meaning V) : Type 0 where
  pub order : Order m
  pub joins : Joins m
  pub monotone : Monotone m
  pub best : Best m
  pub tests : Tests m

-- r is the join of x and y wherever they pass for j and k with j + k at most most_roads; elsewhere r is any value
abbrev pub Joined : {V : Type 0} → Meaning V → V → V → V → Type 0
Joined m x y r = (j k : ℕ) → j + k ≤ most_roads → m.passes j x → m.passes k y → r ≡ m.join x y
