use Rattle.std.proofs.Common.{◌≡◌, ◌++◌, length, Some, sym, ap, ◌∙◌, arith}
use Rattle.std.proofs.lemmas.List.{take-append-drop}
use Rattle.grape_port.specs.Decimal.{number_of}
use Rattle.grape_port.proofs.Digits.{digits_of, number_of-large, number_of-last}
use Rattle.grape_port.proofs.number.read_number.Goals as goal

pub returns-in_err-tens-in-len1 : goal.returns-in_err-tens-in-len1
returns-in_err-tens-in-len1 c =
    let front = c.split_at.result.0.now
    in let last = c.split_at.result.1.now
    in let parts : c.args.text.now ≡ front ++ last = grind (arith, take-append-drop c.min.result c.args.text.now)
    in let one : length last ≡ 1 = omega arith
    in let firsts : Some c.in_ok-short_number-in-len1.field-0 ≡ digits_of front = c.in_ok-short_number-in-len1.ensures
    in c.from_residual-in_err-tens-in-len1.ensures ∙ sym (number_of-large front last _ one firsts c.in_err-tens-in-len1.ensures) ∙ ap number_of (sym parts)

pub returns-in_ok-short_number-in-len1-2 : goal.returns-in_ok-short_number-in-len1-2
returns-in_ok-short_number-in-len1-2 c =
    let front = c.split_at.result.0.now
    in let last = c.split_at.result.1.now
    in let parts : c.args.text.now ≡ front ++ last = grind (arith, take-append-drop c.min.result c.args.text.now)
    in let one : length last ≡ 1 = omega arith
    in let nineteen : length front ≡ 19 = omega (arith, c.split_at.ensures.front_len, c.split_at.ensures.back_len, c.min.ensures)
    in let firsts : Some c.in_ok-short_number-in-len1.field-0 ≡ digits_of front = c.in_ok-short_number-in-len1.ensures
    in let digit : Some c.in_ok-short_number-in-len1-2.field-0 ≡ digits_of last = c.in_ok-short_number-in-len1-2.ensures
    in number_of-last front last _ _ _ nineteen one firsts digit (rw c.in_ok-tens-in-len1.ensures.1 at c.checked_add.ensures) ∙ ap number_of (sym parts)
