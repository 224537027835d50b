-- Why the frontier of a sweep gives the next row.
use Rattle.std.proofs.Common.{◌<◌, ◌≤◌, subst}
use Rattle.criteria.specs.Meaning.{Meaning, Laws}
use Rattle.frontiers.specs.Sound.{StaysRenewed, ChoosesNext, LeavesNone}
use Rattle.frontiers.proofs.Appends.{chosen_next, chosen_none, fresh_inside}
use Rattle.frontiers.proofs.Renewals.{renewed_left}

module _ {V W : Type 0} {a : Meaning V} {b : Meaning W} (la : Laws a) (lb : Laws b) where
  -- offering the newest row keeps what every place holds right
  pub stays_renewed : StaysRenewed a b
  stays_renewed roads base rs last prev best best' newest place j r s n starts away t = renewed_left a b la lb roads base rs j place newest r n s.added best s.renewed best' s.standing last prev s.linked s.sized starts away t

  -- the best of what all places hold is the next row
  pub chooses_next : ChoosesNext a b
  chooses_next roads places origin base rs best last prev c s chosen = (chosen_next a b roads base rs c la lb best places s.ready (subst (λ k. k ≤ 2048) s.same_places s.standing.small) (λ z f. subst (λ k. z.end < k) s.same_places (fresh_inside a b roads base rs s.standing z f)) chosen).0

  -- where no place holds anything, nothing is left
  pub leaves_none : LeavesNone a b
  leaves_none roads places origin base rs best last prev z s none f = chosen_none a b roads base rs best places s.ready (subst (λ k. k ≤ 2048) s.same_places s.standing.small) (λ y g. subst (λ k. y.end < k) s.same_places (fresh_inside a b roads base rs s.standing y g)) none z f
