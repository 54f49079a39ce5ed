use Rattle.pie_lowering.specs.LeastEquations.{whole_weight}
use Rattle.pie_lowering.proofs.Solved.{ready-fits, ready-far, fallen-solves}
use Rattle.pie_dist.proofs.LeastDist.{dist-least}
use Rattle.pie_dist.proofs.Readings.{ready-rows}
use Rattle.pie_dist.proofs.plain.PlainDistPie.peval.Goals as goal

pub lower_to_solution-requires-clause-fits : goal.lower_to_solution-requires-clause-fits
lower_to_solution-requires-clause-fits c = let r = c.requires in ready-fits r.0 r.1.0 c.args.part.now c.args.local.now 0 r.2

pub lower_to_solution-requires-clause-at_most_far : goal.lower_to_solution-requires-clause-at_most_far
lower_to_solution-requires-clause-at_most_far c = let r = c.requires in ready-far whole_weight r.0 (dist-least r.0 r.1) c.args.part.now c.args.local.now 0 r.2

pub lower_to_solution-requires-clause-rows_match : goal.lower_to_solution-requires-clause-rows_match
lower_to_solution-requires-clause-rows_match c = let r = c.requires in ready-rows r.0 r.1 c.args.part.now c.args.local.now 0 r.2

pub returns-clause-solution : goal.returns-clause-solution
returns-clause-solution c = λ job is_for ready.
    fallen-solves whole_weight job (dist-least job is_for) c.args.part.now c.args.local.now c.lower_to_solution.new.local 0 ready c.lower_to_solution.ensures.fallen c.lower_to_solution.ensures.relaxed
