use Rattle.std.proofs.Common.{length, ◌∙◌, ap, sym, subst}
use Rattle.pie_core.specs.Locals.{LocalValues, FitsPart}
use Rattle.pie_lowering.specs.Lowering.{HasFallen, AreAtMostFar, IsSettled, with_mirrors}
use Rattle.pie_lowering.proofs.Steps.{fallen-trans, fallen-fits, fallen-far}
use Rattle.pie_lowering.proofs.Mirrors.{mirrors-fit, lowered-length}
use Rattle.pie_lowering.proofs.Solved.{ready-fits, ready-far, again-settled, again-solves, lowered-far}
use Rattle.pie_lowering.proofs.evaluation.evaluate_again.Goals as goal

pub lower_mirrors-requires-clause-fits : goal.lower_mirrors-requires-clause-fits
lower_mirrors-requires-clause-fits g c =
    let r = c.requires in
    subst (λ (l : LocalValues). FitsPart c.args.part.now l) (sym c.space_by_hand.ensures) (ready-fits r.0 r.1.is_job c.args.part.now c.args.local.now 0 r.2.ready)

pub lower_mirrors-requires-clause-at_most_far : goal.lower_mirrors-requires-clause-at_most_far
lower_mirrors-requires-clause-at_most_far g c =
    let r = c.requires in
    subst (λ (l : LocalValues). AreAtMostFar l.values) (sym c.space_by_hand.ensures) (ready-far g.C.Cost.cost_of r.0 r.1 c.args.part.now c.args.local.now 0 r.2.ready)

pub work_off-requires-clause-fits : goal.work_off-requires-clause-fits
work_off-requires-clause-fits g c =
    let r = c.requires in
    let part = c.args.part.now in
    let hand = c.args.hand.now.values in
    let new = c.lower_mirrors.new.local in
    let fell : HasFallen g.C.Cost.cost_of part (with_mirrors part c.args.local.now hand) new =
    subst (λ (l : LocalValues). HasFallen g.C.Cost.cost_of part (with_mirrors part l hand) new) c.space_by_hand.ensures c.lower_mirrors.ensures.fallen in
    fallen-fits g.C.Cost.cost_of part (with_mirrors part c.args.local.now hand) new fell (mirrors-fit part c.args.local.now hand (ready-fits r.0 r.1.is_job part c.args.local.now 0 r.2.ready))

pub work_off-requires-clause-at_most_far : goal.work_off-requires-clause-at_most_far
work_off-requires-clause-at_most_far g c =
    let r = c.requires in
    let part = c.args.part.now in
    let old = c.args.local.now in
    let hand = c.args.hand.now.values in
    let new = c.lower_mirrors.new.local in
    let fell : HasFallen g.C.Cost.cost_of part (with_mirrors part old hand) new =
    subst (λ (l : LocalValues). HasFallen g.C.Cost.cost_of part (with_mirrors part l hand) new) c.space_by_hand.ensures c.lower_mirrors.ensures.fallen in
    fallen-far g.C.Cost.cost_of part (with_mirrors part old hand) new fell (lowered-far (length part.owned) old.values hand (ready-far g.C.Cost.cost_of r.0 r.1 part old 0 r.2.ready))

pub returns-clause-solution : goal.returns-clause-solution
returns-clause-solution g c = λ job is_least again.
    let part = c.args.part.now in
    let old = c.args.local.now in
    let hand = c.args.hand.now in
    let mid = c.lower_mirrors.new.local in
    let new = c.work_off.new.local in
    let first : HasFallen g.C.Cost.cost_of part (with_mirrors part old hand.values) mid =
    subst (λ (l : LocalValues). HasFallen g.C.Cost.cost_of part (with_mirrors part l hand.values) mid) c.space_by_hand.ensures c.lower_mirrors.ensures.fallen in
    let fell : HasFallen g.C.Cost.cost_of part (with_mirrors part old hand.values) new = fallen-trans g.C.Cost.cost_of part (with_mirrors part old hand.values) mid new first c.work_off.ensures.fallen in
    let settled = c.lower_mirrors.ensures.settled (subst (λ (l : LocalValues). IsSettled g.C.Cost.cost_of part l) (sym c.space_by_hand.ensures) (again-settled g.C.Cost.cost_of job is_least part old 0 hand again)) in
    again-solves g.C.Cost.cost_of job is_least part old new 0 hand again fell (λ q l. c.work_off.ensures.holds q l (settled q l))

pub returns-clause-values : goal.returns-clause-values
returns-clause-values g c =
    c.work_off.ensures.fallen.places ∙ c.lower_mirrors.ensures.fallen.places ∙ lowered-length (length c.args.part.now.owned) c.space_by_hand.new.local.values c.args.hand.now.values
    ∙ ap (λ (l : LocalValues). length l.values) c.space_by_hand.ensures
