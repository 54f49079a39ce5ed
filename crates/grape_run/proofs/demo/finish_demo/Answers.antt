use Rattle.std.proofs.Common.{sym, subst}
use Rattle.command_words.specs.declared.words.Mode.TheVariants.{Demo}
use Rattle.grape_run.specs.Commands.{HasDone}
use Rattle.grape_run.specs.declared.beginning.Beginning.TheVariants.{Fresh}
use Rattle.grape_run.specs.declared.finish.Finish.{Finish}
use Rattle.grape_run.proofs.Demos.{right_few, right_kind, demo_done, demo_in_part}
use Rattle.grape_run.proofs.demo.finish_demo.Goals as goal

pub summary-totals-requires-clause-few : goal.summary-totals-requires-clause-few
summary-totals-requires-clause-few g c = right_few c.args.text.job c.in-Answered.answer c.requires.job c.in-Answered.ensures.made.2

pub summary-totals-requires-clause-kind : goal.summary-totals-requires-clause-kind
summary-totals-requires-clause-kind g c = right_kind c.args.text.job c.in-Answered.answer c.requires.demo c.in-Answered.ensures.made.2

pub returns-in-Ok-clause-done : goal.returns-in-Ok-clause-done
returns-in-Ok-clause-done g c = λ v n.
    let D = g.D.Disk in
    subst (λ (f : Finish). HasDone D.content D.images D.moment D.honest (Demo v n) Fresh c.args.text.job c.args.text.digest f.status f.story (g.O.Sink.written c.args.out.now) (g.O.Sink.written c.write_summary.new.out) c.args.disk.now c.run_job.new.disk)
    (sym c.with_story.ensures)
    (demo_done D.content D.images D.moment D.honest v n c.args.text.job c.args.text.digest c.in-Answered.answer c.in-Answered.story c.summary-totals.result _ _ _ _ c.in-Answered.ensures.made c.summary-totals.ensures c.in-Ok.ensures.written)

pub returns-clause-done : goal.returns-clause-done
returns-clause-done g c = λ v n.
    let D = g.D.Disk in
    subst (λ (f : Finish). HasDone D.content D.images D.moment D.honest (Demo v n) Fresh c.args.text.job c.args.text.digest f.status f.story (g.O.Sink.written c.args.out.now) (g.O.Sink.written c.write_summary.new.out) c.args.disk.now c.run_job.new.disk)
    (sym c.with_story-in-Err.ensures)
    (demo_in_part D.content D.images D.moment D.honest v n c.args.text.job c.args.text.digest c.in-Answered.answer c.in-Answered.story c.summary-totals.result _ _ _ _ c.in-Answered.ensures.made c.summary-totals.ensures c.in-Err.ensures.err)
