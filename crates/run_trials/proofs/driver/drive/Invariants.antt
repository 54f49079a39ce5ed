use Rattle.std.proofs.Common.{◌≡◌}
use Rattle.std.specs.Prelude.{All}
use Rattle.base_machine.specs.Fitness.{IsInForm}
use Rattle.hub_engine.specs.States.{machine}
use Rattle.run_trials.specs.Lanes.{IsDriven}
use Rattle.run_trials.proofs.driver.drive.Given as goal

abbrev pub invariant-steps : goal.invariant-steps
invariant-steps g l = (l.hub.hub.job ≡ l.fn.hub.hub.job) × (l.hub.hub.counters ≡ l.fn.hub.hub.counters) × IsDriven l.hub l.first l.second l.into × All (λ s. IsInForm (machine l.fn.hub.hub) s) l.kept.items
