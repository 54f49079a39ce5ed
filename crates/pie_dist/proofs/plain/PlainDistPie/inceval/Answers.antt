use Rattle.std.proofs.Common.{sym, ap, subst, length, ◌∙◌}
use Rattle.pie_core.specs.Locals.{LocalValues, FitsPart}
use Rattle.pie_lowering.specs.LeastEquations.{whole_weight}
use Rattle.pie_lowering.specs.Lowering.{AreAtMostFar, HasFallen, with_mirrors}
use Rattle.pie_lowering.proofs.Mirrors.{mirrors-fit, lowered-length}
use Rattle.pie_lowering.proofs.Solved.{ready-fits, ready-far, lowered-far, again-solves}
use Rattle.pie_dist.proofs.LeastDist.{dist-least}
use Rattle.pie_dist.proofs.Readings.{ready-rows}
use Rattle.pie_dist.proofs.plain.PlainDistPie.inceval.Goals as goal

pub meet_mirrors-requires-clause-fits : goal.meet_mirrors-requires-clause-fits
meet_mirrors-requires-clause-fits c = let r = c.requires in ready-fits r.0 r.1.0 c.args.part.now c.args.local.now 0 r.2.ready

pub lower_to_solution-requires-clause-fits : goal.lower_to_solution-requires-clause-fits
lower_to_solution-requires-clause-fits c =
    let r = c.requires in
    let part = c.args.part.now in
    let old = c.args.local.now in
    subst (λ (l : LocalValues). FitsPart part l) (sym c.meet_mirrors.ensures) (mirrors-fit part old c.args.hand.now.values (ready-fits r.0 r.1.0 part old 0 r.2.ready))

pub lower_to_solution-requires-clause-at_most_far : goal.lower_to_solution-requires-clause-at_most_far
lower_to_solution-requires-clause-at_most_far c =
    let r = c.requires in
    let part = c.args.part.now in
    let old = c.args.local.now in
    subst (λ (l : LocalValues). AreAtMostFar l.values) (sym c.meet_mirrors.ensures) (lowered-far (length part.owned) old.values c.args.hand.now.values (ready-far whole_weight r.0 (dist-least r.0 r.1) part old 0 r.2.ready))

pub lower_to_solution-requires-clause-rows_match : goal.lower_to_solution-requires-clause-rows_match
lower_to_solution-requires-clause-rows_match c = let r = c.requires in ready-rows r.0 r.1 c.args.part.now c.args.local.now 0 r.2.ready

pub returns-clause-solution : goal.returns-clause-solution
returns-clause-solution c = λ job is_for again.
    let part = c.args.part.now in
    let new = c.lower_to_solution.new.local in
    let fell : HasFallen whole_weight part (with_mirrors part c.args.local.now c.args.hand.now.values) new = subst (λ (l : LocalValues). HasFallen whole_weight part l new) c.meet_mirrors.ensures c.lower_to_solution.ensures.fallen in
    again-solves whole_weight job (dist-least job is_for) part c.args.local.now new 0 c.args.hand.now again fell c.lower_to_solution.ensures.relaxed

pub returns-clause-values : goal.returns-clause-values
returns-clause-values c =
    c.lower_to_solution.ensures.fallen.places ∙ ap (λ (l : LocalValues). length l.values) c.meet_mirrors.ensures ∙ lowered-length (length c.args.part.now.owned) c.args.local.now.values c.args.hand.now.values
