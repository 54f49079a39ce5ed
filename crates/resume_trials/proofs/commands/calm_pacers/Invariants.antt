use Rattle.std.proofs.Common.{◌≡◌, vec_len}
use Rattle.resume_trials.proofs.commands.calm_pacers.Given as goal

abbrev pub invariant-pacers : goal.invariant-pacers
invariant-pacers g l = vec_len l.pacers ≡ l._number
