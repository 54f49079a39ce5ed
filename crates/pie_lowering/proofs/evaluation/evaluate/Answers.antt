use Rattle.std.proofs.Common.{subst, sym}
use Rattle.pie_core.specs.Locals.{LocalValues, FitsPart}
use Rattle.pie_lowering.specs.Lowering.{HasFallen, AreAtMostFar, WaitsOrHolds}
use Rattle.pie_lowering.proofs.Steps.{fallen-trans, fallen-fits, fallen-far}
use Rattle.pie_lowering.proofs.Solved.{ready-fits, ready-far, fallen-solves}
use Rattle.pie_lowering.proofs.evaluation.evaluate.Goals as goal

pub begin-requires-clause-fits : goal.begin-requires-clause-fits
begin-requires-clause-fits g c = let r = c.requires in ready-fits r.0 r.1.is_job c.args.part.now c.args.local.now 0 r.2

pub begin-requires-clause-at_most_far : goal.begin-requires-clause-at_most_far
begin-requires-clause-at_most_far g c = let r = c.requires in ready-far g.C.Cost.cost_of r.0 r.1 c.args.part.now c.args.local.now 0 r.2

pub space_by_mirrors-requires : goal.space_by_mirrors-requires
space_by_mirrors-requires g c =
    let r = c.requires in
    fallen-fits g.C.Cost.cost_of c.args.part.now c.args.local.now c.begin.new.local c.begin.ensures.fallen (ready-fits r.0 r.1.is_job c.args.part.now c.args.local.now 0 r.2)

pub lower_mirror_readers-requires-clause-fits : goal.lower_mirror_readers-requires-clause-fits
lower_mirror_readers-requires-clause-fits g c =
    let r = c.requires in
    let part = c.args.part.now in
    subst (λ (l : LocalValues). FitsPart part l) (sym c.space_by_mirrors.ensures)
    (fallen-fits g.C.Cost.cost_of part c.args.local.now c.begin.new.local c.begin.ensures.fallen (ready-fits r.0 r.1.is_job part c.args.local.now 0 r.2))

pub lower_mirror_readers-requires-clause-at_most_far : goal.lower_mirror_readers-requires-clause-at_most_far
lower_mirror_readers-requires-clause-at_most_far g c =
    let r = c.requires in
    let part = c.args.part.now in
    subst (λ (l : LocalValues). AreAtMostFar l.values) (sym c.space_by_mirrors.ensures)
    (fallen-far g.C.Cost.cost_of part c.args.local.now c.begin.new.local c.begin.ensures.fallen (ready-far g.C.Cost.cost_of r.0 r.1 part c.args.local.now 0 r.2))

pub work_off-requires-clause-fits : goal.work_off-requires-clause-fits
work_off-requires-clause-fits g c =
    let r = c.requires in
    let part = c.args.part.now in
    let old = c.args.local.now in
    let new = c.lower_mirror_readers.new.local in
    let rest : HasFallen g.C.Cost.cost_of part c.begin.new.local new = subst (λ (l : LocalValues). HasFallen g.C.Cost.cost_of part l new) c.space_by_mirrors.ensures c.lower_mirror_readers.ensures.fallen in
    fallen-fits g.C.Cost.cost_of part old new (fallen-trans g.C.Cost.cost_of part old c.begin.new.local new c.begin.ensures.fallen rest) (ready-fits r.0 r.1.is_job part old 0 r.2)

pub work_off-requires-clause-at_most_far : goal.work_off-requires-clause-at_most_far
work_off-requires-clause-at_most_far g c =
    let r = c.requires in
    let part = c.args.part.now in
    let old = c.args.local.now in
    let new = c.lower_mirror_readers.new.local in
    let rest : HasFallen g.C.Cost.cost_of part c.begin.new.local new = subst (λ (l : LocalValues). HasFallen g.C.Cost.cost_of part l new) c.space_by_mirrors.ensures c.lower_mirror_readers.ensures.fallen in
    fallen-far g.C.Cost.cost_of part old new (fallen-trans g.C.Cost.cost_of part old c.begin.new.local new c.begin.ensures.fallen rest) (ready-far g.C.Cost.cost_of r.0 r.1 part old 0 r.2)

pub returns-clause-solution : goal.returns-clause-solution
returns-clause-solution g c = λ job is_least ready.
    let part = c.args.part.now in
    let old = c.args.local.now in
    let mid = c.lower_mirror_readers.new.local in
    let new = c.work_off.new.local in
    let rest : HasFallen g.C.Cost.cost_of part c.begin.new.local mid = subst (λ (l : LocalValues). HasFallen g.C.Cost.cost_of part l mid) c.space_by_mirrors.ensures c.lower_mirror_readers.ensures.fallen in
    let fell : HasFallen g.C.Cost.cost_of part old new =
    fallen-trans g.C.Cost.cost_of part old c.begin.new.local new c.begin.ensures.fallen (fallen-trans g.C.Cost.cost_of part c.begin.new.local mid new rest c.work_off.ensures.fallen) in
    let settled = c.lower_mirror_readers.ensures.settled (λ p l. subst (λ (k : LocalValues). WaitsOrHolds g.C.Cost.cost_of part k p) (sym c.space_by_mirrors.ensures) (c.begin.ensures.begun p l)) in
    fallen-solves g.C.Cost.cost_of job is_least part old new 0 ready fell (λ q l. c.work_off.ensures.holds q l (settled q l))
