use Rattle.answer_text.proofs.Numbers.{Pushed}
use Rattle.answer_text.proofs.write.push_bits.Given as goal

abbrev pub invariant-bits : goal.invariant-bits
invariant-bits l = Pushed l.initial.piece l.piece l.mask l.bit l.none
