-- Lexicographic order, and that there is one minimum at most.
use Rattle.std.proofs.Common.{◌≡◌, ℕ, ◌<◌, ◌⊎◌, List, [], ◌∷◌, ◌++◌, sym, refl, subst, inl, inr, arith}
use Rattle.roads.specs.declared.road.Road.{Road}
use Rattle.paths.specs.Lexicographic.{LexAtMost, values, UniqueLexmin}
use Rattle.paths.specs.Objectives.{Objective, value}

pub lex_same : (xs ys : List ℕ) → LexAtMost xs ys → LexAtMost ys xs → xs ≡ ys
lex_same [] [] h k = refl
lex_same [] (y ∷ ys) h k = absurd k
lex_same (x ∷ xs) [] h k = absurd h
lex_same (x ∷ xs) (y ∷ ys) (inl lt) (inl gt) = absurd (omega arith)
lex_same (x ∷ xs) (y ∷ ys) (inl lt) (inr (e, _)) = absurd (omega arith)
lex_same (x ∷ xs) (y ∷ ys) (inr (e, _)) (inl gt) = absurd (omega arith)
lex_same (x ∷ xs) (y ∷ ys) (inr (e, h)) (inr (_, k)) = let rest = lex_same xs ys h k in (λ i. e i ∷ rest i)

-- x is lexicographically less than y: there is a place where they differ, and at the first such place x is less
abbrev pub LexLess : List ℕ → List ℕ → Type 0
LexLess [] ys = ⊥
LexLess (x ∷ xs) [] = ⊥
LexLess (x ∷ xs) (y ∷ ys) = (x < y) ⊎ ((x ≡ y) × LexLess xs ys)

-- fronts decide
pub less_front : (xs ys vs ws : List ℕ) → LexLess xs ys → LexLess (xs ++ vs) (ys ++ ws)
less_front [] ys vs ws h = absurd h
less_front (x ∷ xs) [] vs ws h = absurd h
less_front (x ∷ xs) (y ∷ ys) vs ws (inl lt) = inl lt
less_front (x ∷ xs) (y ∷ ys) vs ws (inr (e, h)) = inr (e, less_front xs ys vs ws h)

pub less_at_most : (xs ys : List ℕ) → LexLess xs ys → LexAtMost xs ys
less_at_most [] ys h = absurd h
less_at_most (x ∷ xs) [] h = absurd h
less_at_most (x ∷ xs) (y ∷ ys) (inl lt) = inl lt
less_at_most (x ∷ xs) (y ∷ ys) (inr (e, h)) = inr (e, less_at_most xs ys h)

-- and what follows them where they are the same
pub same_front_less : (xs vs ws : List ℕ) → LexLess vs ws → LexLess (xs ++ vs) (xs ++ ws)
same_front_less [] vs ws h = h
same_front_less (x ∷ xs) vs ws h = inr (refl, same_front_less xs vs ws h)

pub same_front : (xs vs ws : List ℕ) → LexAtMost vs ws → LexAtMost (xs ++ vs) (xs ++ ws)
same_front [] vs ws h = h
same_front (x ∷ xs) vs ws h = inr (refl, same_front xs vs ws h)

pub values_both : (os ps : List Objective) (roads : List Road) (path : List ℕ) → values (os ++ ps) roads path ≡ values os roads path ++ values ps roads path
values_both [] ps roads path = refl
values_both (o ∷ os) ps roads path = let rest = values_both os ps roads path in (λ i. value o roads path ∷ rest i)

pub unique_lexmin : UniqueLexmin
unique_lexmin objectives roads s e v w left right =
    lex_same v w
    (subst (LexAtMost v) (sym right.is) (left.least right.path right.leads))
    (subst (LexAtMost w) (sym left.is) (right.least left.path left.leads))
