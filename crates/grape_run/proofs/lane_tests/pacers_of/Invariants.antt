use Rattle.std.proofs.Common.{◌≡◌, vec_len}
use Rattle.grape_run.proofs.lane_tests.pacers_of.Given as goal

abbrev pub invariant-pacers : goal.invariant-pacers
invariant-pacers g l = vec_len l.pacers ≡ l.number
