use Rattle.std.proofs.Common.{◌≡◌}
use Rattle.stop_probe.proofs.tests.first_wrong.Given as goal

abbrev pub invariant-loop-place : goal.invariant-loop-place
invariant-loop-place l = l.probe.workers ≡ 2
