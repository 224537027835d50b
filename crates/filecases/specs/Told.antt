-- What the printed lines tell of records, roads and layers.
use Rattle.std.specs.Prelude.{ℕ, ◌+◌, ◌*◌, false, cond, List, [], ◌∷◌, length, codes, slice_index}
use Rattle.roads.specs.declared.road.Road.{Road}
use Rattle.roadfile.specs.declared.fault.Layer.{Layer}
use Rattle.roadfile.specs.declared.fault.Layer.TheVariants as layer
use Rattle.roadfile.specs.declared.record.Record.{Record}
use Rattle.roadfile.specs.declared.record.Record.TheVariants as says

-- how many bytes a name or a remark has
abbrev pub text_of : Record → ℕ
text_of (says.Place name) = length name.now
text_of (says.Road start end marks) = 0
text_of (says.Remark text) = length text.now
text_of says.End = 0

-- the weight of a road: each of its parts counts by a factor of its own
abbrev pub weight_of : Road → ℕ
weight_of r =
    r.start + 3 * r.end + 5 * slice_index r.marks 0 + 7 * slice_index r.marks 1 + 11 * slice_index r.marks 2 + 13 * slice_index r.marks 3 + cond r.«open» 17 0

-- a road that no file can say
abbrev pub unsaid : Road
unsaid =
    let top : ℕ = 4294967295 in
    record { start = top; end = top; marks = top ∷ top ∷ top ∷ top ∷ []; «open» = false }

-- what a layer is called
abbrev pub layer_name : Layer → List ℕ
layer_name layer.File = codes "file"
layer_name layer.Draft = codes "draft"
