use Rattle.std.proofs.Common.{◌*◌, ap, ◌∙◌, length}
use Rattle.pie_sim.specs.SimJobs.{nodes_asked}
use Rattle.pie_sim.specs.Falling.{HasFallen}
use Rattle.pie_sim.proofs.Steps.{fallen-trans, fallen-fits}
use Rattle.pie_sim.proofs.Mirrors.{lowered-length, lowered-fits}
use Rattle.pie_sim.proofs.Fallen.{of_nodes-below}
use Rattle.pie_sim.proofs.Solved.{ready-fits, ready-listed, ready-turned, ready-width, ready-values, mirrors-of_nodes, again-settled, inceval-solution}
use Rattle.pie_sim.proofs.sim.SimPie.inceval.Goals as goal

pub lower_mirrors-requires-clause-fits : goal.lower_mirrors-requires-clause-fits
lower_mirrors-requires-clause-fits c = let r = c.requires in ready-fits c.args.self.now r.0 r.1 c.args.part.now c.args.local.now (nodes_asked r.0.query) r.2.ready

pub lower_mirrors-requires-clause-listed : goal.lower_mirrors-requires-clause-listed
lower_mirrors-requires-clause-listed c = let r = c.requires in ready-listed c.args.self.now r.0 r.1 c.args.part.now c.args.local.now (nodes_asked r.0.query) r.2.ready

pub lower_mirrors-requires-clause-values : goal.lower_mirrors-requires-clause-values
lower_mirrors-requires-clause-values c = let r = c.requires in ready-values c.args.self.now r.0 r.1 c.args.part.now c.args.local.now (nodes_asked r.0.query) r.2.ready

pub work_off_within-requires-clause-fits : goal.work_off_within-requires-clause-fits
work_off_within-requires-clause-fits c =
    let r = c.requires in
    let part = c.args.part.now in
    let old = c.args.local.now in
    lowered-fits part old c.lower_mirrors.new.local c.args.hand.now.values c.lower_mirrors.ensures.values c.lower_mirrors.ensures.before (ready-fits c.args.self.now r.0 r.1 part old (nodes_asked r.0.query) r.2.ready)

pub work_off_within-requires-clause-listed : goal.work_off_within-requires-clause-listed
work_off_within-requires-clause-listed c = let r = c.requires in ready-listed c.args.self.now r.0 r.1 c.args.part.now c.args.local.now (nodes_asked r.0.query) r.2.ready

pub work_off-requires-clause-fits : goal.work_off-requires-clause-fits
work_off-requires-clause-fits c =
    let r = c.requires in
    let part = c.args.part.now in
    let old = c.args.local.now in
    let mid = c.lower_mirrors.new.local in
    fallen-fits c.args.self.now.targets part mid c.work_off_within.new.local c.work_off_within.ensures.fallen
    (lowered-fits part old mid c.args.hand.now.values c.lower_mirrors.ensures.values c.lower_mirrors.ensures.before (ready-fits c.args.self.now r.0 r.1 part old (nodes_asked r.0.query) r.2.ready))

pub work_off-requires-clause-turned : goal.work_off-requires-clause-turned
work_off-requires-clause-turned c = let r = c.requires in ready-turned c.args.self.now r.0 r.1 c.args.part.now c.args.local.now (nodes_asked r.0.query) r.2.ready

pub work_off-requires-clause-room : goal.work_off-requires-clause-room
work_off-requires-clause-room c =
    let r = c.requires in
    let width = ready-width c.args.self.now r.0 r.1 c.args.part.now c.args.local.now (nodes_asked r.0.query) r.2.ready in
    c.work_off_within.ensures.fallen.counters ∙ ap length c.lower_mirrors.ensures.counters ∙ r.2.ready.room ∙ ap (λ n. length c.args.part.now.owned * n) width

pub work_off-requires-clause-of_nodes : goal.work_off-requires-clause-of_nodes
work_off-requires-clause-of_nodes c =
    let r = c.requires in
    let mid = c.lower_mirrors.new.local in
    of_nodes-below c.args.self.now.nodes mid.values c.work_off_within.new.local.values c.work_off_within.ensures.fallen.below
    (mirrors-of_nodes c.args.self.now r.0 r.1 c.args.part.now c.args.local.now (nodes_asked r.0.query) r.2.ready mid c.args.hand.now.values c.lower_mirrors.ensures.values)

pub returns-then-not-work_off_within-clause-solution : goal.returns-then-not-work_off_within-clause-solution
returns-then-not-work_off_within-clause-solution c = λ job is_for again.
    let sim = c.args.self.now in
    let part = c.args.part.now in
    let old = c.args.local.now in
    let mid = c.lower_mirrors.new.local in
    let least = c.work_off_within.new.local in
    let new = c.work_off.new.local in
    let settled = c.lower_mirrors.ensures.settled sim.targets (again-settled sim job is_for part old (nodes_asked job.query) again.ready again.solved) in
    let fell : HasFallen sim.targets part mid new = fallen-trans sim.targets part mid least new c.work_off_within.ensures.fallen c.work_off.ensures.fallen in
    inceval-solution sim job is_for part old (nodes_asked job.query) again.ready mid new c.args.hand.now.values c.lower_mirrors.ensures.values fell (c.work_off.ensures.supported (c.work_off_within.ensures.settled settled))

pub returns-then-not-work_off_within-clause-values : goal.returns-then-not-work_off_within-clause-values
returns-then-not-work_off_within-clause-values c =
    c.work_off.ensures.fallen.places ∙ c.work_off_within.ensures.fallen.places ∙ ap length c.lower_mirrors.ensures.values ∙ lowered-length (length c.args.part.now.owned) c.args.local.now.values c.args.hand.now.values

pub returns-else-not-work_off_within-clause-solution : goal.returns-else-not-work_off_within-clause-solution
returns-else-not-work_off_within-clause-solution c = λ job is_for again.
    let sim = c.args.self.now in
    let part = c.args.part.now in
    let old = c.args.local.now in
    let mid = c.lower_mirrors.new.local in
    let settled = c.lower_mirrors.ensures.settled sim.targets (again-settled sim job is_for part old (nodes_asked job.query) again.ready again.solved) in
    inceval-solution sim job is_for part old (nodes_asked job.query) again.ready mid c.work_off_within.new.local c.args.hand.now.values c.lower_mirrors.ensures.values c.work_off_within.ensures.fallen (c.work_off_within.ensures.supported c.if-not-work_off_within.false settled)

pub returns-else-not-work_off_within-clause-values : goal.returns-else-not-work_off_within-clause-values
returns-else-not-work_off_within-clause-values c =
    c.work_off_within.ensures.fallen.places ∙ ap length c.lower_mirrors.ensures.values ∙ lowered-length (length c.args.part.now.owned) c.args.local.now.values c.args.hand.now.values
