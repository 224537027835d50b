use Rattle.std.proofs.Common.{append_assoc, rules, arith, mod-eq_of_lt, length-append}
use Rattle.std.proofs.lemmas.Fmt.{decimal_nonempty, decimal_digit, decimal_step}
use Rattle.std.proofs.lemmas.Str.{encode_ascii}
use Rattle.lines.proofs.Digits.{length_decimal_more}
use Rattle.lines.proofs.line.+push_number.Goals as goal
use Rattle.lines.proofs.line.+push_number.Goals.{then-n-ge10, else-n-ge10}

pub push_number-requires : goal.push_number-requires
push_number-requires t c = search (rules, length_decimal_more)

pub push-requires : goal.push-requires
push-requires t c =
    elim c.if-n-ge10.branch [
      | then-n-ge10 w ↦ grind (arith, length_decimal_more, encode_ascii, length-append)
      | else-n-ge10 w ↦ grind (arith, decimal_nonempty, encode_ascii)
    ]

pub returns : goal.returns
returns t c =
    elim c.if-n-ge10.branch [
      | then-n-ge10 w ↦ grind (arith, decimal_step, append_assoc)
      | else-n-ge10 w ↦ grind (arith, decimal_digit, mod-eq_of_lt)
    ]
