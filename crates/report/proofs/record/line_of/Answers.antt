use Rattle.std.proofs.Common.{◌≡◌, ℕ, List, length, Ok, Err, Result, MatchResult, refl, rules, inl, inr}
use Rattle.roads.specs.declared.network.Network.{Network}
use Rattle.roads.specs.declared.road.Road.{Road}
use Rattle.lines.specs.declared.line.Line.{Line}
use Rattle.lines.specs.declared.line.Line.TheVariants.{Loaded}
use Rattle.report.specs.Reading.{NetworkOf, refusal_line}
use Rattle.report.specs.Record.{Says}
use Rattle.report.specs.declared.refusal.Refusal.{Refusal}
use Rattle.report.specs.declared.refusal.Refusal.TheVariants.{TooLong, Fault}
use Rattle.report.proofs.record.line_of.Goals as goal

-- what there is for a file tells the line that the file comes to
told : (file : List ℕ) (table after : List Road) (r : Result Network Refusal) (l : Line) → length table ≡ 1024 → NetworkOf file table after r → MatchResult r (λ n. l ≡ Loaded n.places n.roads) (λ f. l ≡ refusal_line f) → Says file l
told file table after (Ok n) l room (short, loaded) is = inr (short, record { table = table; after = after; answer = Ok n; room = room; loaded = loaded; line = is })
told file table after (Err TooLong) l room (long, _) is = inl (long, is)
told file table after (Err (Fault f)) l room (short, loaded) is = inr (short, record { table = table; after = after; answer = Err f; room = room; loaded = loaded; line = is })

pub returns : goal.returns
returns c = told c.args.file.now _ c.network_of.new.table c.network_of.result c.map_or_else.result refl c.network_of.ensures (search rules)
