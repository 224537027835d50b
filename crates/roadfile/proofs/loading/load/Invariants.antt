use Rattle.std.proofs.Common.{length}
use Rattle.roadfile.proofs.Progress.{Sofar}
use Rattle.roadfile.proofs.loading.load.Given as goal

abbrev pub invariant-loop-item : goal.invariant-loop-item
invariant-loop-item l = Sofar l.file l.initial.table l.reader l.draft l.table l.offset

abbrev pub decreases-loop-item : goal.decreases-loop-item
decreases-loop-item l = length l.reader.left.now
