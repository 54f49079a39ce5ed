use Rattle.std.proofs.Common.{sym, subst}
use Rattle.token_cut.specs.Parts.{SnapshotParts}
use Rattle.base_machine.specs.Machine.{system_of}
use Rattle.base_machine.specs.Fitness.{IsInForm}
use Rattle.grape_hub.proofs.Answering.{fresh_is_a_start}
use Rattle.coordinator.proofs.Beginnings.{begun_fresh}
use Rattle.run_trials.proofs.snapshots.check_run.Goals as goal

pub driven-requires-clause-start : goal.driven-requires-clause-start
driven-requires-clause-start g c =
    subst (λ (s : SnapshotParts). IsInForm (system_of c.args.job.now) s) (sym (begun_fresh c.args.job.now c.in_ok-shape.shape c.in_ok-start.start c.in_ok-shape.ensures.shape c.in_ok-start.ensures))
    (fresh_is_a_start c.args.job.now c.requires.job).0
