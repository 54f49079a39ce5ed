use Rattle.std.proofs.Common.{sym, ◌∙◌, ap, subst}
use Rattle.graph_core.specs.declared.job.Job.{Job}
use Rattle.graph_core.specs.Fragments.{fragments_of}
use Rattle.count_falls.proofs.driving.run_out.Goals as goal

pub take_turn-requires-clause-unsealed : goal.take_turn-requires-clause-unsealed
take_turn-requires-clause-unsealed g c = ap (λ (job : Job). job.settings.snapshot) c.turns.invariant.0 ∙ c.requires.unsealed

pub take_turn-requires-clause-fragments : goal.take_turn-requires-clause-fragments
take_turn-requires-clause-fragments g c = c.requires.fragments ∙ ap (λ (job : Job). fragments_of job) (sym c.turns.invariant.0)

pub take_turn-requires-clause-program : goal.take_turn-requires-clause-program
take_turn-requires-clause-program g c = subst (λ (job : Job). g.P.Pie.is_for c.args.program.now job) (sym c.turns.invariant.0) c.requires.program

pub take_turn-requires-clause-counters : goal.take_turn-requires-clause-counters
take_turn-requires-clause-counters g c = c.turns.invariant.1 ∙ (c.requires.counters ∙ ap (λ (job : Job). g.P.Pie.counters_for job) (sym c.turns.invariant.0))
