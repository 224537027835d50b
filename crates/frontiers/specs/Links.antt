-- Links are a fact: there is one proof of them at most.
use Rattle.std.specs.Prelude.{ℕ, List, length, Some, None, Option, slice_index_or}
use Rattle.std.specs.Coded.{Π_prop, le_prop}
use mathlib.Core.HLevel.{⊥_prop, ×₃_prop}
use native.Mathlib.Nat.{ℕ_set}
use Rattle.rows.specs.declared.row.Row.{Row}
use Rattle.frontiers.specs.Frontiers.{Latest, Linked}

module _ {V W : Type 0} where
  latest_prop : (rs : List (Row V W)) (n place : ℕ) (o : Option ℕ) → IsProp (Latest rs n place o)
  latest_prop rs n place None = Π_prop (λ i. Π_prop (λ r. Π_prop (λ _. Π_prop (λ _. Π_prop (λ _. ⊥_prop)))))
  latest_prop rs n place (Some k) =
      ×₃_prop le_prop (Π_prop (λ r. Π_prop (λ _. ℕ_set r.end place))) (Π_prop (λ i. Π_prop (λ r. Π_prop (λ _. Π_prop (λ _. Π_prop (λ _. le_prop))))))

  pub linked_prop : (rs : List (Row V W)) (last prev : List (Option ℕ)) → IsProp (Linked rs last prev)
  linked_prop rs last prev x y = λ i. record {
    latest = Π_prop (λ p. Π_prop (λ _. latest_prop rs (length rs) p (slice_index_or last p None))) x.latest y.latest i;
    before = Π_prop (λ k. Π_prop (λ r. Π_prop (λ _. latest_prop rs k r.end (slice_index_or prev k None)))) x.before y.before i;
  }
