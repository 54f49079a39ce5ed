use Rattle.std.proofs.Common.{arith}
use Rattle.std.proofs.lemmas.Fmt.{length-decimal-le}
use Rattle.std.proofs.lemmas.Grind.{common_steps}
use Rattle.answer_text.proofs.piece.Piece.push_number.Goals as goal

pub returns-clause-two_digits : goal.returns-clause-two_digits
returns-clause-two_digits c = λ few.
    let short = length-decimal-le 2 c.args.number (omega arith) few (omega arith) in grind (arith, common_steps)
