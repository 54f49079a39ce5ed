use Rattle.std.proofs.Common.{length, inl, inr, ap, sym, subst, arith}
use Rattle.std.proofs.lemmas.Bool.{cases_eq, cases_lt}
use Rattle.pie_lowering.specs.Lowering.{HoldsReaders}
use Rattle.pie_lowering.proofs.Steps.{fallen-trans, wait-trans, holds-kept, place-settled}
use Rattle.pie_lowering.proofs.lowering.lower_mirror_readers.Goals as goal

pub mirrors-preserved : goal.mirrors-preserved
mirrors-preserved g c =
    let part = c.args.part.now in
    let old = c.mirrors.local in
    let new = c.lower_readers.new.local in
    let so_far = c.mirrors.invariant in
    let step = c.lower_readers.ensures in
    record {
      fallen = fallen-trans g.C.Cost.cost_of part c.args.local.now old new so_far.fallen step.fallen;
      waits = wait-trans c.args.local.now old new so_far.waits step.waits;
      held = λ q l h. elim (cases_eq q c.mirrors.place) [
        | inl e ↦ subst (λ u. HoldsReaders g.C.Cost.cost_of part new.values u) (sym e) step.holds
        | inr d ↦ holds-kept g.C.Cost.cost_of part old.values new.values q step.fallen.below (step.fallen.mirrors q l) (so_far.held q l (omega (arith, h, d)))
      ];
    }

pub returns-clause-settled : goal.returns-clause-settled
returns-clause-settled g c = λ h q l.
    let owned = ap length c.owned.ensures.owned in
    let mirrors = ap length c.mirrors-2.ensures.mirrors in
    elim (cases_lt q (length c.args.part.now.owned)) [
      | inl k ↦ place-settled g.C.Cost.cost_of c.args.part.now c.args.local.now c.mirrors.local q c.mirrors.invariant.fallen.below c.mirrors.invariant.waits (h q k)
      | inr k ↦ inr (c.mirrors.invariant.held q k (omega (arith, l, c.mirrors-test.false, c.mirrors.auto.place-end, owned, mirrors)))
    ]
