-- What a read past the end of a road table gives.
use Rattle.std.proofs.Common.{false, []}
use Rattle.roads.specs.declared.road.Road.{Road}

-- what a read past the end of a table would give
abbrev pub unread : Road
unread = record { start = 0; end = 0; marks = []; «open» = false }
