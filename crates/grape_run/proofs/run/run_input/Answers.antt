use Rattle.std.proofs.Common.{inr, refl}
use Rattle.grape_run.specs.Commands.{mode_by}
use Rattle.grape_run.proofs.Answered.{asked_for}
use Rattle.grape_run.proofs.Made.{done_at}
use Rattle.grape_run.proofs.Outcomes.{reads_source}
use Rattle.grape_run.proofs.run.run_input.Goals as goal

pub returns-clause-read : goal.returns-clause-read
returns-clause-read g c = reads_source c.finish_job.result.status _ _ c.in-Ok.text c.finish_job.ensures.read c.in-Ok.ensures.read

pub returns-clause-does : goal.returns-clause-does
returns-clause-does g c =
    let D = g.D.Disk in
    let text = c.in-Ok.text in
    let b = c.args.beginning in
    inr (
      c.finish_job.ensures.read,
      (
        mode_by b,
        refl,
        (
          text.job,
          text.digest,
          asked_for b (g.S.Source.left c.args.input.now) _ text c.in-Ok.ensures.read c.in-Ok.ensures.job,
          done_at D.content D.images D.moment D.honest b text.job text.digest _ _ _ _ _ _ c.finish_job.ensures.done,
        ),
      ),
    )
