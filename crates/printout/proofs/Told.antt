-- The text that a fault's line has.
use Rattle.std.proofs.Common.{◌≡◌, ℕ, List, Ok, Err, Result, ap}
use Rattle.std.specs.Result.{IsErrAnd}
use Rattle.lines.specs.Text.{text}
use Rattle.printout.specs.Faults.{fault_line, text_told}
use Rattle.printout.specs.declared.fault.RecordFault.{RecordFault}

-- a fault that a refusal became tells that fault's line, whatever stands there
pub fault_told : (r : Result (Unit {0}) RecordFault) (f : RecordFault) (out : List ℕ) → IsErrAnd r (λ e. e ≡ f) → text_told r out ≡ text (fault_line f)
fault_told (Ok _) f out none = absurd none
fault_told (Err e) f out same = ap (λ x. text (fault_line x)) same
