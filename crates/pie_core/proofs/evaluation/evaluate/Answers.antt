use Rattle.std.proofs.Common.{sym, subst}
use Rattle.graph_core.specs.declared.job.Job.{Job}
use Rattle.pie_core.specs.Locals.{LocalValues}
use Rattle.pie_core.specs.Evaluations.{MayEvaluate}
use Rattle.pie_core.proofs.Evaluating.{IsSolved, unchanged, ready_again, without_hand, with_hand}
use Rattle.pie_core.proofs.evaluation.evaluate.Given.{Over}
use Rattle.pie_core.proofs.evaluation.evaluate.Goals as goal
use Rattle.pie_core.proofs.evaluation.evaluate.Goals.{then-fresh, else-fresh, Joined-fresh}

-- what stands before the hand is looked at solves the values at the Take
solved : (g : Over) (c : Joined-fresh g) (job : Job) → g.P.Pie.is_for c.args.program.now job
    → MayEvaluate (g.P.Pie.equations c.args.program.now job) job c.args.part.now c.args.fresh c.args.local.now (g.P.Pie.counters_for job) c.args.hand.now
    → IsSolved (g.P.Pie.equations c.args.program.now job) c.args.part.now c.args.local.now c.if-fresh.local
solved g c job is_for may =
    let program = c.args.program.now in
    let e = g.P.Pie.equations program job in
    let old = c.args.local.now in
    let Solves : LocalValues → Type 0 = λ mid. IsSolved e c.args.part.now old mid in
    elim c.if-fresh.branch [
      | then-fresh w ↦ subst Solves (sym w.local-is) (record { solution = w.peval.ensures.solution job is_for may.ready; before = w.peval.ensures.before; room = w.peval.ensures.counters })
      | else-fresh w ↦
          subst Solves (sym w.local-is)
          (unchanged e job c.args.part.now c.args.fresh old (g.P.Pie.counters_for job) c.args.hand.now (g.met.P.Pie.of_query program job is_for) (g.met.P.Pie.lawful program job is_for) may w.if-fresh.false)
    ]

pub inceval-requires : goal.inceval-requires
inceval-requires g c =
    let program = c.args.program.now in
    let job = c.requires.0 in
    let is_for = c.requires.1 in
    let may = c.requires.2 in (
      job,
      is_for,
      ready_again (g.P.Pie.equations program job) job c.args.part.now c.args.fresh c.args.local.now (g.P.Pie.counters_for job) c.args.hand.now (g.met.P.Pie.of_query program job is_for) (g.met.P.Pie.lawful program job is_for) may
          c.if-fresh.local (solved g (goal.at.inceval-requires g c).Joined-fresh job is_for may),
    )

pub returns-then-not-is_empty-clause-solution : goal.returns-then-not-is_empty-clause-solution
returns-then-not-is_empty-clause-solution g c job is_for may =
    let program = c.args.program.now in
    let e = g.P.Pie.equations program job in
    let query = g.met.P.Pie.of_query program job is_for in
    let lawful = g.met.P.Pie.lawful program job is_for in
    let part = c.args.part.now in
    let hand = c.args.hand.now in
    let old = c.args.local.now in
    let counters = g.P.Pie.counters_for job in
    let there = solved g (goal.at.returns-then-not-is_empty-clause-solution g c).Joined-fresh job is_for may in
    let mid = c.if-fresh.local in
    let again = ready_again e job part c.args.fresh old counters hand query lawful may mid there in
    with_hand e job part c.args.fresh old counters hand query lawful may mid there c.inceval.new.local.values (c.inceval.ensures.solution job is_for again)

pub returns-else-not-is_empty-clause-solution : goal.returns-else-not-is_empty-clause-solution
returns-else-not-is_empty-clause-solution g c job is_for may =
    let program = c.args.program.now in
    without_hand (g.P.Pie.equations program job) job c.args.part.now c.args.fresh c.args.local.now (g.P.Pie.counters_for job) c.args.hand.now (g.met.P.Pie.of_query program job is_for) (g.met.P.Pie.lawful program job is_for) may
    c.if-fresh.local (solved g (goal.at.returns-else-not-is_empty-clause-solution g c).Joined-fresh job is_for may) (c.is_empty.ensures.0 c.if-not-is_empty.false)
