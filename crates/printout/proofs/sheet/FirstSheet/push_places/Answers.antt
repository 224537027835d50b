use Rattle.std.proofs.Common.{arith}
use Rattle.printout.specs.Sheets.{pairs_at}
use Rattle.printout.proofs.Texts.{rows_below}
use Rattle.printout.proofs.sheet.FirstSheet.push_places.Goals as goal

pub push_place-requires-clause-room : goal.push_place-requires-clause-room
push_place-requires-clause-room c = omega (arith, c.loop-place.invariant.0, c.requires.room, rows_below (pairs_at c.args.self.now) c.loop-place.place c.args.places (omega arith))
