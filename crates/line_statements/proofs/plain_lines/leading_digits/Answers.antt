use Rattle.std.proofs.Common.{arith}
use Rattle.std.proofs.lemmas.Grind.{common_steps}
use Rattle.grape_port.proofs.Digits.{eighteen_digits}
use Rattle.line_statements.proofs.plain_lines.leading_digits.Goals as goal

pub overflow_mul-value : goal.overflow_mul-value
overflow_mul-value c = omega (arith, eighteen_digits c.digits.at c.digits.value (omega arith) c.digits.invariant.small)

pub overflow_add-value : goal.overflow_add-value
overflow_add-value c =
    let small = eighteen_digits c.digits.at c.digits.value (omega arith) c.digits.invariant.small
    in grind (arith, common_steps)
