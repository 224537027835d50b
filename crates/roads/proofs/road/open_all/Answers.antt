use Rattle.std.proofs.Common.{◌<◌, true, length, get_or, arith}
use Rattle.std.proofs.lemmas.List.{get_or_default}
use Rattle.std.proofs.lemmas.List.Edits.{map_over_more}
use Rattle.roads.specs.Tables.{turned}
use Rattle.roads.proofs.Changes.{unread}
use Rattle.roads.proofs.road.open_all.Goals as goal

pub loop-road-preserved : goal.loop-road-preserved
loop-road-preserved c =
    let roads = c.loop-road.road-items in
    let i = c.loop-road.road-index in
    let within : i < length roads = omega arith in
    map_over_more (turned true) _ roads i (get_or roads i unread) c.loop-road-test.true c.loop-road.invariant (get_or_default roads i unread _ within)
