use Rattle.std.proofs.Common.{◌≡◌, ◌++◌, sym, ap, ◌∙◌}
use Rattle.lines.specs.Text.{text}
use Rattle.lines.specs.declared.line.Line.TheVariants as line
use Rattle.rows.specs.Places.{pair_of}
use Rattle.printout.specs.Record.{row_text}
use Rattle.printout.proofs.sheet.FirstSheet.push_row.Goals as goal

pub returns-clause-written : goal.returns-clause-written
returns-clause-written c x (_, is_x) =
    let row = c.unwrap-row.result.now in
    let (_, (_, is)) = rw c.unwrap-row.ensures at c.row.ensures in
    let same : row ≡ x = sym (is x) ∙ is_x x in
    let before = c.args.output.now.bytes in
    c.push_line.ensures.written ∙ ap (λ l. before ++ text (line.Row row.first.total l)) c.limit.ensures ∙ ap (λ z. before ++ row_text (pair_of z)) same
