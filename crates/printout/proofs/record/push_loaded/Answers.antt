use Rattle.std.proofs.Common.{ℕ, List, replicate, Ok, Err, refl, inl, inr}
use Rattle.lines.specs.Text.{text}
use Rattle.roads.specs.declared.road.Road.{Road}
use Rattle.report.specs.Reading.{NetworkOf, refusal_line}
use Rattle.report.specs.declared.refusal.Refusal.{Refusal}
use Rattle.report.specs.declared.refusal.Refusal.TheVariants.{TooLong, Fault}
use Rattle.printout.specs.Record.{Says, blank}
use Rattle.printout.proofs.Loaded.{serving}
use Rattle.printout.proofs.Told.{fault_told}
use Rattle.printout.specs.declared.fault.RecordFault.TheVariants.{File}
use Rattle.printout.proofs.record.push_loaded.Goals as goal

-- a refusal's line is what the file comes to
told : (file : List ℕ) (after : List Road) (r : Refusal) → NetworkOf file (replicate 1024 blank) after (Err r) → Says file (text (refusal_line r))
told file after TooLong (long, _) = inl (long, refl)
told file after (Fault f) (short, loaded) = inr (short, record { after = after; answer = Err f; loaded = loaded; answered = refl })

pub returns-in_err-network-clause-says : goal.returns-in_err-network-clause-says
returns-in_err-network-clause-says c =
    let r = c.in_err-network.field-0.0 in
    rw (fault_told _ (File r) _ c.from_residual.ensures.1) (told c.args.file.now c.network_of.new.table r c.in_err-network.ensures)

pub push_swept-requires-clause-serves : goal.push_swept-requires-clause-serves
push_swept-requires-clause-serves c = serving c.args.file.now (replicate 1024 blank) c.in_ok-network.network c.network_of.new.table c.in_ok-network.ensures.1

pub returns-clause-says : goal.returns-clause-says
returns-clause-says c = inr (
  c.in_ok-network.ensures.0,
  record {
    after = c.network_of.new.table;
    answer = Ok c.in_ok-network.network;
    loaded = c.in_ok-network.ensures.1;
    answered = c.push_swept.ensures.noted;
  },
)
