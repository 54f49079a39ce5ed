use Rattle.snapshot_store.proofs.Wrong.{RestDecides}
use Rattle.snapshot_store.proofs.header.first_wrong.Given as goal

abbrev pub invariant-loop-i : goal.invariant-loop-i
invariant-loop-i l = RestDecides l.expected l.at l.bytes l.i
