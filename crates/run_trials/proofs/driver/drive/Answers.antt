use Rattle.std.proofs.Common.{sym, ◌∙◌}
use Rattle.hub_engine.specs.States.{machine}
use Rattle.run_trials.proofs.Driving.{form_stays}
use Rattle.run_trials.proofs.driver.drive.Goals as goal

pub steps-preserved : goal.steps-preserved
steps-preserved g c =
    let job = c.step-one.ensures.along.job ∙ c.steps.invariant.0 in (
      job,
      c.step-one.ensures.along.counters ∙ c.steps.invariant.1,
      c.step-one.ensures.driven,
      c.in_ok-keep_copy.ensures (machine c.args.hub.now.hub) c.steps.invariant.3 (form_stays c.step-one.new.hub.hub c.args.hub.now.hub c.step-one.new.into (sym job) c.step-one.ensures.driven.into),
    )
