use Rattle.std.proofs.Common.{◌≡◌, Some, refl, sym, subst}
use Rattle.std.specs.Prelude.{IsNone}
use Rattle.pie_core.specs.Locals.{LocalValues}
use Rattle.pie_core.specs.LocalCalls.{TakesOne}
use Rattle.pie_lowering.specs.Lowering.{HoldsReaders}
use Rattle.pie_lowering.proofs.Steps.{fallen-same, fallen-trans, taken-rest, popped-settled, popped-less, none-relaxed}
use Rattle.pie_lowering.proofs.lowering.work_off.Goals as goal

pub work-preserved : goal.work-preserved
work-preserved g c =
    let part = c.args.part.now in
    let old = c.work.local in
    let mid = c.dequeue.new.self in
    let new = c.lower_readers.new.local in
    let so_far = c.work.invariant in
    let step = c.lower_readers.ensures in
    let place = c.in-Some.place in
    let taken : TakesOne old (Some place) mid = subst (λ r. TakesOne old r mid) c.in-Some.is c.dequeue.ensures.one in
    record {
      fallen = fallen-trans g.C.Cost.cost_of part c.args.local.now old new so_far.fallen (fallen-trans g.C.Cost.cost_of part old mid new (fallen-same g.C.Cost.cost_of part old mid (taken-rest old mid place taken)) step.fallen);
      settled = λ q l h. popped-settled g.C.Cost.cost_of part old mid new place q taken step.fallen step.waits step.holds (so_far.settled q l h);
    }

pub work-smaller : goal.work-smaller
work-smaller g c =
    let old = c.work.local in
    let mid = c.dequeue.new.self in
    let taken : TakesOne old (Some c.in-Some.place) mid = subst (λ r. TakesOne old r mid) c.in-Some.is c.dequeue.ensures.one in
    popped-less old mid c.lower_readers.new.local c.in-Some.place taken c.lower_readers.ensures.waits

pub returns-clause-holds : goal.returns-clause-holds
returns-clause-holds g c = λ q l h.
    let part = c.args.part.now in
    let old = c.work.local in
    let mid = c.dequeue.new.self in
    let same : mid ≡ old = subst (λ r. TakesOne old r mid) c.in_default.is c.dequeue.ensures.one in
    let none = c.dequeue.ensures.none.0 (subst (λ r. IsNone r) (sym c.in_default.is) refl) in
    subst (λ (l : LocalValues). HoldsReaders g.C.Cost.cost_of part l.values q) (sym same) (none-relaxed g.C.Cost.cost_of part old q (none q) (c.work.invariant.settled q l h))
