-- The numbers by which the refusals of a road file are known, and who found them.
use Rattle.std.specs.Prelude.{ℕ}
use Rattle.roadfile.specs.declared.fault.FileFault.{FileFault}
use Rattle.roadfile.specs.declared.fault.FileFault.TheVariants.{Letters, Version, Cut, Form, Extra, Draft}
use Rattle.roadfile.specs.declared.fault.Layer.{Layer}
use Rattle.roadfile.specs.declared.fault.Layer.TheVariants as layer
use Rattle.roads.specs.Faults.{draft_number}

-- a fault of the draft keeps its number
abbrev pub file_number : FileFault → ℕ
file_number Letters = 1
file_number Version = 2
file_number Cut = 3
file_number Form = 4
file_number Extra = 5
file_number (Draft f) = draft_number f

abbrev pub file_layer : FileFault → Layer
file_layer Letters = layer.File
file_layer Version = layer.File
file_layer Cut = layer.File
file_layer Form = layer.File
file_layer Extra = layer.File
file_layer (Draft f) = layer.Draft
