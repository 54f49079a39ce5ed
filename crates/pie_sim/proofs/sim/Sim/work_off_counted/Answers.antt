use Rattle.std.proofs.Common.{◌≡◌, Some, refl, sym, subst}
use Rattle.std.specs.Prelude.{IsNone}
use Rattle.pie_core.specs.Locals.{LocalValues}
use Rattle.pie_core.specs.LocalCalls.{TakesOne}
use Rattle.pie_sim.specs.Falling.{AreSupported, HasFallen}
use Rattle.pie_sim.proofs.Steps.{fallen-refl, fallen-taken, fallen-trans, fallen-step, popped-settled, none-supported}
use Rattle.pie_sim.proofs.Fallen.{of_nodes-below}
use Rattle.pie_sim.proofs.sim.Sim.work_off_counted.Goals as goal

pub work-init : goal.work-init
work-init c = record { fallen = fallen-refl c.args.self.now.targets c.args.part.now c.args.local.now; settled = λ h. h; counts = c.requires.counts }

pub test_counted-requires-clause-of_nodes : goal.test_counted-requires-clause-of_nodes
test_counted-requires-clause-of_nodes c =
    let start = c.args.local.now in
    let mid = c.dequeue.new.self in
    let taken : TakesOne c.work.local (Some c.in-Some.place) mid = subst (λ r. TakesOne c.work.local r mid) c.in-Some.is c.dequeue.ensures.one in
    let fell : HasFallen c.args.self.now.targets c.args.part.now start mid = fallen-trans c.args.self.now.targets c.args.part.now start c.work.local mid c.work.invariant.fallen (fallen-taken c.args.self.now.targets c.args.part.now c.work.local mid c.in-Some.place taken) in
    of_nodes-below c.args.self.now.nodes start.values mid.values fell.below c.requires.of_nodes

pub work-preserved : goal.work-preserved
work-preserved c =
    let targets = c.args.self.now.targets in
    let part = c.args.part.now in
    let old = c.work.local in
    let mid = c.dequeue.new.self in
    let new = c.test_counted.new.local in
    let so_far = c.work.invariant in
    let step = c.test_counted.ensures in
    let taken : TakesOne old (Some c.in-Some.place) mid = subst (λ r. TakesOne old r mid) c.in-Some.is c.dequeue.ensures.one in
    record {
      fallen = fallen-step targets part c.args.local.now old mid new c.in-Some.place so_far.fallen taken step.fallen;
      settled = λ h. step.settled (popped-settled targets part old mid c.in-Some.place taken (so_far.settled h));
      counts = step.counts;
    }

pub returns-clause-supported : goal.returns-clause-supported
returns-clause-supported c = λ h.
    let targets = c.args.self.now.targets in
    let part = c.args.part.now in
    let old = c.work.local in
    let mid = c.dequeue.new.self in
    let same : mid ≡ old = subst (λ r. TakesOne old r mid) c.in_default.is c.dequeue.ensures.one in
    let none = c.dequeue.ensures.none.0 (subst (λ r. IsNone r) (sym c.in_default.is) refl) in
    subst (λ (l : LocalValues). AreSupported targets part l.values) (sym same) (none-supported targets part old none (c.work.invariant.settled h))
