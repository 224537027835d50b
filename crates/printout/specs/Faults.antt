-- The line that tells why there is no list of places, and the text of either.
use Rattle.std.specs.Prelude.{ℕ, List, Ok, Err, Result}
use Rattle.book.specs.Faults.{planner_number}
use Rattle.lines.specs.Text.{text}
use Rattle.lines.specs.declared.line.Line.{Line}
use Rattle.lines.specs.declared.line.Line.TheVariants as line
use Rattle.report.specs.Reading.{refusal_line}
use Rattle.printout.specs.declared.fault.RecordFault.{RecordFault}
use Rattle.printout.specs.declared.fault.RecordFault.TheVariants.{File, Planner}

-- the line of a fault: one that is not the file's is at offset 0
abbrev pub fault_line : RecordFault → Line
fault_line (File r) = refusal_line r
fault_line (Planner f) = line.Refused (planner_number f) 0

-- the text that stands there, or that of the fault's line
abbrev pub text_told : Result (Unit {0}) RecordFault → List ℕ → List ℕ
text_told (Ok _) out = out
text_told (Err f) out = text (fault_line f)
