use Rattle.std.proofs.Common.{◌≡◌, Some, refl, sym, subst}
use Rattle.std.specs.Prelude.{IsNone}
use Rattle.pie_core.specs.Locals.{LocalValues}
use Rattle.pie_core.specs.LocalCalls.{TakesOne}
use Rattle.pie_sim.specs.Falling.{AreSupported, IsSettled}
use Rattle.pie_sim.proofs.Steps.{fallen-refl, fallen-step, popped-settled, none-supported}
use Rattle.pie_sim.proofs.sim.Sim.work_off_within.Goals as goal

pub work-init : goal.work-init
work-init c = record { fallen = fallen-refl c.args.self.now.targets c.args.part.now c.args.local.now; settled = λ h. h }

pub work-preserved : goal.work-preserved
work-preserved c =
    let so_far = c.work.invariant in
    let taken : TakesOne c.work.local (Some c.in-Some.place) c.dequeue.new.self = subst (λ r. TakesOne c.work.local r c.dequeue.new.self) c.in-Some.is c.dequeue.ensures.one in
    record {
      fallen = fallen-step c.args.self.now.targets c.args.part.now c.args.local.now c.work.local c.dequeue.new.self c.test.new.local c.in-Some.place so_far.fallen taken c.test.ensures.fallen;
      settled = λ h. c.test.ensures.settled (popped-settled c.args.self.now.targets c.args.part.now c.work.local c.dequeue.new.self c.in-Some.place taken (so_far.settled h));
    }

pub returns-then-left-read-clause-fallen : goal.returns-then-left-read-clause-fallen
returns-then-left-read-clause-fallen c =
    let taken : TakesOne c.work.local (Some c.in-Some.place) c.dequeue.new.self = subst (λ r. TakesOne c.work.local r c.dequeue.new.self) c.in-Some.is c.dequeue.ensures.one in
    fallen-step c.args.self.now.targets c.args.part.now c.args.local.now c.work.local c.dequeue.new.self c.test.new.local c.in-Some.place c.work.invariant.fallen taken c.test.ensures.fallen

pub returns-then-left-read-clause-settled : goal.returns-then-left-read-clause-settled
returns-then-left-read-clause-settled c = λ h.
    let taken : TakesOne c.work.local (Some c.in-Some.place) c.dequeue.new.self = subst (λ r. TakesOne c.work.local r c.dequeue.new.self) c.in-Some.is c.dequeue.ensures.one in
    c.test.ensures.settled (popped-settled c.args.self.now.targets c.args.part.now c.work.local c.dequeue.new.self c.in-Some.place taken (c.work.invariant.settled h))

pub returns-clause-settled : goal.returns-clause-settled
returns-clause-settled c = λ h.
    let same : c.dequeue.new.self ≡ c.work.local = subst (λ r. TakesOne c.work.local r c.dequeue.new.self) c.in_default.is c.dequeue.ensures.one in
    subst (λ (l : LocalValues). IsSettled c.args.self.now.targets c.args.part.now l) (sym same) (c.work.invariant.settled h)

pub returns-clause-supported : goal.returns-clause-supported
returns-clause-supported c = λ t h.
    let targets = c.args.self.now.targets in
    let part = c.args.part.now in
    let old = c.work.local in
    let mid = c.dequeue.new.self in
    let same : mid ≡ old = subst (λ r. TakesOne old r mid) c.in_default.is c.dequeue.ensures.one in
    let none = c.dequeue.ensures.none.0 (subst (λ r. IsNone r) (sym c.in_default.is) refl) in
    subst (λ (l : LocalValues). AreSupported targets part l.values) (sym same) (none-supported targets part old none (c.work.invariant.settled h))
