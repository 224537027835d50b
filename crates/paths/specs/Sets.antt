-- Efficient paths for two objectives, and complete sets of them.
use Rattle.std.specs.Prelude.{◌≡◌, ℕ, ◌<◌, ◌⊎◌, List, length, slice_index_or}
use Rattle.roads.specs.declared.road.Road.{Road}
use Rattle.paths.specs.Objectives.{Objective, value, Better, NoWorse}
use Rattle.paths.specs.Paths.{Path}

-- the path stands at index i of the set
abbrev pub Stands : List (List ℕ) → ℕ → List ℕ → Type 0
Stands set i path = (i < length set) × ((d : List ℕ) → slice_index_or set i d ≡ path)

-- the paths from s to e over the roads, judged by the objectives f and g
module _ (f g : Objective) (roads : List Road) (s e : ℕ) where
  -- p dominates q: it has a better value for one objective and a not worse value for the other
  abbrev pub Dominates : List ℕ → List ℕ → Type 0
  Dominates p q =
      (Better f (value f roads p) (value f roads q) × NoWorse g (value g roads p) (value g roads q)) ⊎
      (NoWorse f (value f roads p) (value f roads q) × Better g (value g roads p) (value g roads q))

  -- p and q are equivalent: their values agree for both objectives
  pub record Equivalent (p q : List ℕ) : Type 0 where
    pub first : value f roads p ≡ value f roads q
    pub second : value g roads p ≡ value g roads q

  -- p is a path that no path dominates
  pub record Efficient (p : List ℕ) : Type 0 where
    pub path : Path roads s p e
    pub best : (q : List ℕ) → Path roads s q e → Dominates q p → ⊥

  -- a set of efficient paths, such that every path outside it is dominated by, or equivalent to, one in it
  pub record Complete (set : List (List ℕ)) : Type 0 where
    pub efficient : (i : ℕ) (p : List ℕ) → Stands set i p → Efficient p
    pub outside : (q : List ℕ) → Path roads s q e → ((i : ℕ) → Stands set i q → ⊥) → (i : ℕ) × ((p : List ℕ) × (Stands set i p × (Dominates p q ⊎ Equivalent p q)))

  -- a complete set of which no two paths are equivalent
  pub record Minimal (set : List (List ℕ)) : Type 0 where
    pub complete : Complete set
    pub apart : (i j : ℕ) (p q : List ℕ) → i < j → Stands set i p → Stands set j q → Equivalent p q → ⊥

-- two minimal complete sets have the same values: each path of the one is equivalent to one of the other
abbrev pub MinimalSetsAgree : Type 0
MinimalSetsAgree =
    (f g : Objective) (roads : List Road) (s e : ℕ) (S T : List (List ℕ)) →
    Minimal f g roads s e S →
    Minimal f g roads s e T →
    (i : ℕ) (p : List ℕ) →
    Stands S i p →
    (j : ℕ) × ((q : List ℕ) × (Stands T j q × Equivalent f g roads s e p q))
