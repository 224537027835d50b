-- The kinds of records, and the bytes that stand for them.
use Rattle.std.specs.Prelude.{◌≡◌, ℕ, ◌<◌, Ok, Err, Result}
use Rattle.roadfile.specs.declared.fault.FileFault.{FileFault}
use Rattle.roadfile.specs.declared.fault.FileFault.TheVariants.{Form}
use Rattle.roadfile.specs.declared.kind.Kind.{Kind}
use Rattle.roadfile.specs.declared.kind.Kind.TheVariants.{End, Place, Road, Remark}

-- the byte that stands for a kind
abbrev pub code_of : Kind → ℕ
code_of End = 0
code_of Place = 1
code_of Road = 2
code_of Remark = 3

-- the result is the kind with this byte, or a fault of the form where no kind has it
abbrev pub Decodes : ℕ → Result Kind FileFault → Type 0
Decodes code (Ok kind) = code_of kind ≡ code
Decodes code (Err fault) = (fault ≡ Form) × (3 < code)
