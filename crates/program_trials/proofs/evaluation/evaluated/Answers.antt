use Rattle.std.proofs.Common.{◌≡◌, ◌++◌, refl, sym, ap, subst, ◌∙◌}
use Rattle.value_order.specs.declared.order.Order.TheVariants.{Least}
use Rattle.message_buffer.specs.HandValues.{HandValues}
use Rattle.pie_core.specs.Locals.{LocalValues}
use Rattle.graph_core.specs.Equations.{Equations}
use Rattle.pie_core.specs.Solutions.{IsReadyFor, IsLocalSolution, starts_of}
use Rattle.pie_core.proofs.Steps.{solved_is_ready_again}
use Rattle.pie_core.proofs.Starting.{loaded-ready}
use Rattle.program_trials.proofs.evaluation.evaluated.Goals as goal

pub peval-requires : goal.peval-requires
peval-requires g c =
    let job = c.args.job.now in (
      job,
      c.requires.is_for,
      loaded-ready (g.P.Pie.equations c.args.program.now job) job c.args.part.now c.in_ok-local.local c.load.new.self c.counters.result (g.P.Pie.counters_for job) c.deref.result.now
          (g.met.P.Pie.of_query c.args.program.now job c.requires.is_for) c.requires.number c.requires.part (c.deref.ensures.value ∙ c.in_ok-starts.ensures) c.in_ok-local.ensures (c.counters.ensures job c.requires.is_for) c.load.ensures,
    )

pub returns-clause-ready : goal.returns-clause-ready
returns-clause-ready g c =
    let job = c.args.job.now in
    let part = c.args.part.now in
    let e = g.P.Pie.equations c.args.program.now job in
    let ready : IsReadyFor e job part c.load.new.self (g.P.Pie.counters_for job) = loaded-ready e job part c.in_ok-local.local c.load.new.self c.counters.result (g.P.Pie.counters_for job) c.deref.result.now
    (g.met.P.Pie.of_query c.args.program.now job c.requires.is_for) c.requires.number c.requires.part (c.deref.ensures.value ∙ c.in_ok-starts.ensures) c.in_ok-local.ensures (c.counters.ensures job c.requires.is_for) c.load.ensures in
    let hand : HandValues = record { order = Least; values = part.mirrors } in
    (solved_is_ready_again e job part c.load.new.self c.peval.new.local (g.P.Pie.counters_for job) hand ready (c.peval.ensures.solution job c.requires.is_for ready) c.peval.ensures.before c.peval.ensures.counters refl).ready

pub returns-clause-solved : goal.returns-clause-solved
returns-clause-solved g c =
    let job = c.args.job.now in
    let part = c.args.part.now in
    let e = g.P.Pie.equations c.args.program.now job in
    let ready : IsReadyFor e job part c.load.new.self (g.P.Pie.counters_for job) = loaded-ready e job part c.in_ok-local.local c.load.new.self c.counters.result (g.P.Pie.counters_for job) c.deref.result.now
    (g.met.P.Pie.of_query c.args.program.now job c.requires.is_for) c.requires.number c.requires.part (c.deref.ensures.value ∙ c.in_ok-starts.ensures) c.in_ok-local.ensures (c.counters.ensures job c.requires.is_for) c.load.ensures in
    (c.peval.ensures.solution job c.requires.is_for ready).candidate.equations

pub returns-clause-solution : goal.returns-clause-solution
returns-clause-solution g c =
    let job = c.args.job.now in
    let part = c.args.part.now in
    let e = g.P.Pie.equations c.args.program.now job in
    let ready : IsReadyFor e job part c.load.new.self (g.P.Pie.counters_for job) = loaded-ready e job part c.in_ok-local.local c.load.new.self c.counters.result (g.P.Pie.counters_for job) c.deref.result.now
    (g.met.P.Pie.of_query c.args.program.now job c.requires.is_for) c.requires.number c.requires.part (c.deref.ensures.value ∙ c.in_ok-starts.ensures) c.in_ok-local.ensures (c.counters.ensures job c.requires.is_for) c.load.ensures in
    let values : c.load.new.self.values ≡ starts_of e (part.owned ++ part.mirrors) =
    ap (λ (l : LocalValues). l.values) c.load.ensures ∙ c.deref.ensures.value ∙ c.in_ok-starts.ensures ∙ sym (ap (λ (d : Equations). starts_of d (part.owned ++ part.mirrors)) (g.met.P.Pie.of_query c.args.program.now job c.requires.is_for)) in
    subst (λ xs. IsLocalSolution e part.owned part.mirrors xs c.peval.new.local.values) values (c.peval.ensures.solution job c.requires.is_for ready)
