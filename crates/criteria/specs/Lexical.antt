-- The meaning of Lexical.
use Rattle.std.specs.Prelude.{◌≡◌, ◌⊎◌}
use Rattle.criteria.specs.declared.lexical.LexicalValue.{LexicalValue}
use Rattle.criteria.specs.Meaning.{Meaning, Strict}

-- the first part decides, and the second on a tie
abbrev pub lexical_good : {V W : Type 0} → Meaning V → Meaning W → LexicalValue V W → LexicalValue V W → Type 0
lexical_good a b x y = Strict a.good x.first y.first ⊎ ((x.first ≡ y.first) × b.good x.second y.second)

-- two criteria, one after the other: each part is joined, read and tested by its own
abbrev pub lexical_meaning : {V W : Type 0} → Meaning V → Meaning W → Meaning (LexicalValue V W)
lexical_meaning a b = record {
  good = lexical_good a b;
  join = λ x y. record { first = a.join x.first y.first; second = b.join x.second y.second };
  unit = record { first = a.unit; second = b.unit };
  value = λ marks. record { first = a.value marks; second = b.value marks };
  passes = λ k x. a.passes k x.first × b.passes k x.second;
}
