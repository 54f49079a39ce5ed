use Rattle.std.specs.Prelude.{All}
use Rattle.base_machine.specs.Machine.{system_of}
use Rattle.base_machine.specs.Fitness.{IsInForm}
use Rattle.run_trials.proofs.snapshots.resume_each.Given as goal

abbrev pub invariant-kept : goal.invariant-kept
invariant-kept g l = All (λ s. IsInForm (system_of l.job) s) l.snapshot-iterator.rest.items
