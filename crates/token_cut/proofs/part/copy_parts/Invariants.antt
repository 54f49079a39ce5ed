use Rattle.token_cut.proofs.Copying.{AreWritten}
use Rattle.token_cut.proofs.part.copy_parts.Given as goal

-- the parts so far are written, and the others are as they were
abbrev pub invariant-loop-k : goal.invariant-loop-k
invariant-loop-k l = AreWritten l.parts l.fn.to l.to l.k
