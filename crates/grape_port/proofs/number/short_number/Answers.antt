use Rattle.std.proofs.Common.{arith}
use Rattle.std.proofs.lemmas.Grind.{common_steps}
use Rattle.grape_port.proofs.Digits.{eighteen_digits}
use Rattle.grape_port.proofs.number.short_number.Goals as goal

pub overflow_mul-value : goal.overflow_mul-value
overflow_mul-value c =
    omega (arith, eighteen_digits c.loop-byte.byte-index c.loop-byte.value (omega arith) c.loop-byte.invariant.small)

pub overflow_add-value : goal.overflow_add-value
overflow_add-value c =
    let small = eighteen_digits c.loop-byte.byte-index c.loop-byte.value (omega arith) c.loop-byte.invariant.small
    in grind (arith, common_steps)
