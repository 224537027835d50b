use Rattle.std.proofs.Common.{◌-◌, ◌≤◌, length, take}
use Rattle.frontiers.specs.Frontiers.{Searching}
use Rattle.growth.specs.Sourced.{Sourced}
use Rattle.sweep.proofs.search.Search.climb.Given as goal

abbrev pub invariant-loop-n : goal.invariant-loop-n
invariant-loop-n g l =
    let s = l.self in
    record {
      within : l.n ≤ length l.initial.rows;
      searching : Searching (g.A.Criterion.meaning s.first.now) (g.B.Criterion.meaning s.second.now) s.roads.now s.places s.origin s.base (take l.n l.rows) l.frontier.best.rows l.frontier.links.last l.frontier.links.prev;
      sourced : Sourced (length s.roads.now) s.base (take l.n l.rows);
    }

abbrev pub decreases-loop-n : goal.decreases-loop-n
decreases-loop-n g l = length l.initial.rows - l.n
