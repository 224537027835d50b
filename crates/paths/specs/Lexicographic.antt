-- Lexicographic optima: the least vector of values that a path has.
use Rattle.std.specs.Prelude.{◌≡◌, ℕ, ◌<◌, ◌⊎◌, List, [], ◌∷◌, map}
use Rattle.roads.specs.declared.road.Road.{Road}
use Rattle.paths.specs.Objectives.{Objective, value}
use Rattle.paths.specs.Paths.{Path}

-- x is lexicographically at most y: at the first place where they differ x is less, or they are the same as far as x goes
abbrev pub LexAtMost : List ℕ → List ℕ → Type 0
LexAtMost [] ys = Unit {0}
LexAtMost (x ∷ xs) [] = ⊥
LexAtMost (x ∷ xs) (y ∷ ys) = (x < y) ⊎ ((x ≡ y) × LexAtMost xs ys)

-- the values of a path for several objectives, in their order
abbrev pub values : List Objective → List Road → List ℕ → List ℕ
values objectives roads path = map (λ o. value o roads path) objectives

-- v is the lexicographic minimum of the values of the paths from s to e
pub record Lexmin (objectives : List Objective) (roads : List Road) (s e : ℕ) (v : List ℕ) : Type 0 where
  pub path : List ℕ
  pub leads : Path roads s path e
  pub is : v ≡ values objectives roads path
  pub least : (q : List ℕ) → Path roads s q e → LexAtMost v (values objectives roads q)

-- there is one such minimum at most
abbrev pub UniqueLexmin : Type 0
UniqueLexmin =
    (objectives : List Objective) (roads : List Road) (s e : ℕ) (v w : List ℕ) →
    Lexmin objectives roads s e v →
    Lexmin objectives roads s e w →
    v ≡ w
