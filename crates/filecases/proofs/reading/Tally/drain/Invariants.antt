use Rattle.std.proofs.Common.{length}
use Rattle.roadfile.specs.Reading.{left_of}
use Rattle.filecases.proofs.reading.Tally.drain.Given as goal

abbrev pub decreases-loop-item : goal.decreases-loop-item
decreases-loop-item l = length (left_of l.reader)
