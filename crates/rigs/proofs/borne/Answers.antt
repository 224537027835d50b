use Rattle.std.proofs.Common.{ℕ, List, ⊎_elim, ◌<◌, ◌≤◌, length, slice_index, leb, leb-true, leb-false, arith, rules}
use Rattle.std.proofs.Math.Nat.{eq-or-lt_of_le}
use Rattle.std.proofs.lemmas.List.Sorted.{IsPartitionPoint-from_clause, IsPartitionedBy-leb, IsNonDecreasingBy-from_default}
use Rattle.rigs.specs.Rigs.{StrictlyRising}
use Rattle.rigs.proofs.borne.Goals as goal

-- masses that rise do not fall
not_falling : (masses : List ℕ) → StrictlyRising masses → (i j : ℕ) → i ≤ j → j < length masses → slice_index masses i ≤ slice_index masses j
not_falling masses rising i j le within = ⊎_elim (λ e. rw e (omega arith)) (λ lt. omega (arith, rising i j lt within)) (eq-or-lt_of_le le)

pub returns : goal.returns
returns c =
    let parted = IsPartitionedBy-leb (λ m. m) _ c.args.limit (IsNonDecreasingBy-from_default (λ m. m) _ 0 (not_falling _ c.requires)) in
    let point = IsPartitionPoint-from_clause (λ m. leb m c.args.limit) _ _ c.partition_point.ensures.partitioned parted (λ a r q k. search rules) in
    record {
      within = search rules;
      before = λ k lt. leb-true _ _ (point.0 k 0 (omega arith) lt);
      above = λ lt. leb-false _ _ (point.1 _ 0 (omega arith) lt);
    }
