use Rattle.std.proofs.Common.{arith, ap, sym, ◌∙◌, ◌*◌, length, inl}
use Rattle.pie_core.specs.Locals.{LocalValues}
use Rattle.pie_sim.specs.SimJobs.{nodes_asked}
use Rattle.pie_sim.specs.Falling.{HasFallen}
use Rattle.pie_sim.proofs.Steps.{fallen-same, fallen-trans, fallen-fits}
use Rattle.pie_sim.proofs.Fallen.{of_nodes-below}
use Rattle.pie_sim.proofs.Solved.{ready-fits, ready-turned, ready-of_nodes, ready-width, peval-solution}
use Rattle.pie_sim.proofs.sim.SimPie.peval.Goals as goal

-- listing changes no value
listed : (c : goal.After-work_off-arg-1) → HasFallen c.args.self.now.targets c.args.part.now c.args.local.now c.enqueue_below.new.self
listed c =
    let rest = c.enqueue_below.ensures.rest in
    fallen-same c.args.self.now.targets c.args.part.now c.args.local.now c.enqueue_below.new.self
    (rest ∙ ap (λ cs. let x : LocalValues = record c.args.local.now { counters = cs; waiting = c.enqueue_below.new.self.waiting } in x) (sym (ap (λ (l : LocalValues). l.counters) rest)))
    (ap (λ (l : LocalValues). length l.counters) rest)

pub overflow_cast-owned : goal.overflow_cast-owned
overflow_cast-owned c =
    let r = c.requires in
    let fits = ready-fits c.args.self.now r.0 r.1 c.args.part.now c.args.local.now (nodes_asked r.0.query) r.2 in
    omega (arith, fits.few, ap length c.owned.ensures.owned)

pub work_off-requires-clause-fits : goal.work_off-requires-clause-fits
work_off-requires-clause-fits c =
    let r = c.requires in
    fallen-fits c.args.self.now.targets c.args.part.now c.args.local.now c.enqueue_below.new.self (listed c) (ready-fits c.args.self.now r.0 r.1 c.args.part.now c.args.local.now (nodes_asked r.0.query) r.2)

pub work_off-requires-clause-turned : goal.work_off-requires-clause-turned
work_off-requires-clause-turned c = let r = c.requires in ready-turned c.args.self.now r.0 r.1 c.args.part.now c.args.local.now (nodes_asked r.0.query) r.2

pub work_off-requires-clause-room : goal.work_off-requires-clause-room
work_off-requires-clause-room c =
    let r = c.requires in
    let width = ready-width c.args.self.now r.0 r.1 c.args.part.now c.args.local.now (nodes_asked r.0.query) r.2 in
    (listed c).counters ∙ r.2.room ∙ ap (λ n. length c.args.part.now.owned * n) width

pub work_off-requires-clause-of_nodes : goal.work_off-requires-clause-of_nodes
work_off-requires-clause-of_nodes c =
    let r = c.requires in
    of_nodes-below c.args.self.now.nodes c.args.local.now.values c.enqueue_below.new.self.values (listed c).below (ready-of_nodes c.args.self.now r.0 r.1 c.args.part.now c.args.local.now (nodes_asked r.0.query) r.2)

pub returns-clause-solution : goal.returns-clause-solution
returns-clause-solution c = λ job is_for ready.
    let sim = c.args.self.now in
    let part = c.args.part.now in
    let old = c.args.local.now in
    let new = c.work_off.new.local in
    let fell : HasFallen sim.targets part old new = fallen-trans sim.targets part old c.enqueue_below.new.self new (listed c.before) c.work_off.ensures.fallen in
    let owned = ap length c.owned.ensures.owned in
    peval-solution sim job is_for part old (nodes_asked job.query) ready new fell (c.work_off.ensures.supported (λ p l. inl (c.enqueue_below.ensures.waits p (omega (arith, l, owned)))))
