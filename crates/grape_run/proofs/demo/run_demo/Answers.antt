use Rattle.std.proofs.Common.{inr, refl, ap}
use Rattle.graph_core.specs.declared.job.Job.{Job}
use Rattle.command_words.specs.declared.words.Mode.TheVariants.{Demo}
use Rattle.grape_run.proofs.Demos.{demo_end}
use Rattle.grape_run.proofs.demo.run_demo.Goals as goal

pub returns-clause-does : goal.returns-clause-does
returns-clause-does g c = λ told.
    inr (
      c.finish_demo.ensures.read,
      (
        Demo c.args.vertices c.args.number,
        refl,
        (c.in-Ok.job, _, record { within = c.in-Ok.ensures.within; is_job = c.in-Ok.ensures.job; is_digest = tt }, c.finish_demo.ensures.done c.args.vertices c.args.number),
      ),
    )

pub returns-clause-ends : goal.returns-clause-ends
returns-clause-ends g c =
    demo_end c.in-Ok.job _ (g.D.Disk.content c.args.disk.now) c.finish_demo.result.status (c.args.vertices, c.args.number, c.in-Ok.ensures.job) c.finish_demo.ensures.read (c.finish_demo.ensures.done c.args.vertices c.args.number).refused

pub returns-clause-unused : goal.returns-clause-unused
returns-clause-unused g c =
    (c.finish_demo.ensures.done c.args.vertices c.args.number).state.unused refl (ap (λ (j : Job). j.settings.snapshot) c.in-Ok.ensures.job)
