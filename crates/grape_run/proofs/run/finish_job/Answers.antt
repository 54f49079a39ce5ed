use Rattle.std.proofs.Common.{sym, subst}
use Rattle.grape_run.specs.Commands.{HasDone, mode_by}
use Rattle.grape_run.specs.declared.finish.Finish.{Finish}
use Rattle.grape_run.proofs.Made.{done, done_in_part}
use Rattle.grape_run.proofs.run.finish_job.Goals as goal

pub returns-in-Ok-clause-done : goal.returns-in-Ok-clause-done
returns-in-Ok-clause-done g c =
    let D = g.D.Disk in
    let digest = c.args.text.digest in
    subst (λ (f : Finish). HasDone D.content D.images D.moment D.honest (mode_by c.args.beginning) c.args.beginning c.args.text.job digest f.status f.story (g.O.Sink.written c.args.out.now) (g.O.Sink.written c.write_answer.new.out) c.args.disk.now c.run_job.new.disk)
    (sym c.with_story.ensures)
    (done D.content D.images D.moment D.honest c.args.beginning c.args.text.job digest c.in-Answered.answer c.in-Answered.story _ _ _ _ c.in-Answered.ensures.made c.in-Ok.ensures.written)

pub returns-clause-done : goal.returns-clause-done
returns-clause-done g c =
    let D = g.D.Disk in
    let digest = c.args.text.digest in
    subst (λ (f : Finish). HasDone D.content D.images D.moment D.honest (mode_by c.args.beginning) c.args.beginning c.args.text.job digest f.status f.story (g.O.Sink.written c.args.out.now) (g.O.Sink.written c.write_answer.new.out) c.args.disk.now c.run_job.new.disk)
    (sym c.with_story-in-Err.ensures)
    (done_in_part D.content D.images D.moment D.honest c.args.beginning c.args.text.job digest c.in-Answered.answer c.in-Answered.story _ _ _ _ c.in-Answered.ensures.made c.in-Err.ensures.err)
