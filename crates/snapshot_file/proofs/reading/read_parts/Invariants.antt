use Rattle.snapshot_file.proofs.Run.{PartsRead}
use Rattle.snapshot_file.proofs.reading.read_parts.Given as goal

abbrev pub invariant-loop-i : goal.invariant-loop-i
invariant-loop-i l = PartsRead l.order l.shape l.at l.bytes l.fn.into l.i l.place l.rest l.into
