use Rattle.std.proofs.Common.{◌++◌, ap, ◌∙◌, arith}
use Rattle.rows.specs.Places.{pair_of}
use Rattle.rows.proofs.Filter.{row_exists}
use Rattle.printout.specs.Sheets.{rows_at}
use Rattle.printout.specs.Record.{row_text}
use Rattle.printout.proofs.Texts.{row_more}
use Rattle.printout.proofs.sheet.FirstSheet.push_place.Goals as goal

pub loop-index-preserved : goal.loop-index-preserved
loop-index-preserved c =
    let rows = rows_at c.args.self.now c.args.place in
    let i = c.loop-index.index in
    let (_, count) = rw c.unwrap-count.ensures at c.count.ensures in
    let (x, at) = row_exists rows i (omega (arith, count)) in (
      omega arith,
      c.push_row.ensures.written x at ∙ ap (λ l. l ++ row_text (pair_of x)) c.loop-index.invariant.1 ∙ row_more rows i x c.push_line.new.output.bytes at,
    )
