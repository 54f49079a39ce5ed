use Rattle.std.proofs.Common.{sym, ◌∙◌, ap, subst}
use Rattle.graph_core.specs.declared.job.Job.{Job}
use Rattle.graph_core.specs.Fragments.{fragments_of}
use Rattle.count_falls.proofs.driving.take_turn.Goals as goal

pub serve-requires-clause-fragments : goal.serve-requires-clause-fragments
serve-requires-clause-fragments g c = c.requires.fragments ∙ ap (λ (job : Job). fragments_of job) (sym c.do_duty.ensures.same.0)

pub serve-requires-clause-program : goal.serve-requires-clause-program
serve-requires-clause-program g c = subst (λ (job : Job). g.P.Pie.is_for c.args.program.now job) (sym c.do_duty.ensures.same.0) c.requires.program

pub serve-requires-clause-counters : goal.serve-requires-clause-counters
serve-requires-clause-counters g c = c.do_duty.ensures.same.1 ∙ (c.requires.counters ∙ ap (λ (job : Job). g.P.Pie.counters_for job) (sym c.do_duty.ensures.same.0))
