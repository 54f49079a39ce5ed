use Rattle.std.proofs.Common.{subst}
use Rattle.std.specs.Prelude.{All}
use Rattle.graph_core.specs.declared.job.Job.{Job}
use Rattle.base_machine.specs.Machine.{system_of}
use Rattle.base_machine.specs.Fitness.{IsInForm}
use Rattle.run_trials.proofs.Driving.{driven_begins}
use Rattle.run_trials.proofs.driver.driven_by.Goals as goal

pub drive-requires-clause-driven : goal.drive-requires-clause-driven
drive-requires-clause-driven g c =
    driven_begins c.in_ok-hub.hub c.args.job.now (g.P.Pie.counters_for c.args.job.now) c.args.start c.in_ok-into.into c.in_ok-hub.ensures.hub c.in_ok-hub.ensures.beginning.0 c.in_ok-into.ensures c.requires.start

pub returns : goal.returns
returns g c = subst (λ (j : Job). All (λ s. IsInForm (system_of j) s) c.in_ok-kept.kept.items) c.in_ok-hub.ensures.beginning.0.0 c.in_ok-kept.ensures.sealed
