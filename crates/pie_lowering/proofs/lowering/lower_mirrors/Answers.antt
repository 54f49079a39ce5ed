use Rattle.std.proofs.Common.{ℕ, List, ◌+◌, ◌<◌, ◌∙◌, sym, ap, subst, arith, refl, length, slice_index}
use Rattle.pie_core.specs.Locals.{LocalValues}
use Rattle.pie_lowering.specs.Lowering.{HasFallen, with_mirrors}
use Rattle.pie_lowering.proofs.Steps.{fallen-refl, fallen-fits}
use Rattle.pie_lowering.proofs.Mirrors.{mirror_met, no-mirrors, shown, shown-all, mirrors-more, mirrors-fit, mirror-fallen, mirror-far, lowered-length}
use Rattle.pie_lowering.proofs.lowering.lower_mirrors.Goals as goal

pub hand-init : goal.hand-init
hand-init g c =
    let part = c.args.part.now in
    let start = c.args.local.now in
    record {
      fallen = subst (λ (l : LocalValues). HasFallen g.C.Cost.cost_of part l start) (sym (no-mirrors part start (length c.values-values.result.now) c.requires.at_most_far)) (fallen-refl g.C.Cost.cost_of part start);
      at_most_far = c.requires.at_most_far;
      settled = λ h. h;
    }

pub lower_mirror-requires-clause-fits : goal.lower_mirror-requires-clause-fits
lower_mirror-requires-clause-fits g c =
    let part = c.args.part.now in
    let start = c.args.local.now in
    let past = shown c.values-values.result.now c.mirrors-mirror-items.result.now c.hand.mirror-index in
    fallen-fits g.C.Cost.cost_of part (with_mirrors part start past) c.hand.local c.hand.invariant.fallen (mirrors-fit part start past c.requires.fits)

pub hand-preserved : goal.hand-preserved
hand-preserved g c =
    let part = c.args.part.now in
    let start = c.args.local.now in
    let hand = c.values-values.result.now in
    let mirrors = c.mirrors-mirror-items.result.now in
    let i = c.hand.mirror-index in
    let k = slice_index mirrors i in
    let m = length c.owned.result.now + k in
    let old = c.hand.local in
    let new = c.lower_mirror.new.local in
    let past : List ℕ = shown hand mirrors i in
    let so_far : LocalValues = with_mirrors part start past in
    let value = slice_index hand k in
    let owned = ap length c.owned.ensures.owned in
    let items = ap length c.values-values.ensures in
    let only = c.mirrors-mirror-items.ensures.only i 0 c.hand-test.true in
    let in_hand : k < length hand = omega (arith, only, items) in
    let place : m < length start.values = omega (arith, owned, in_hand, items, c.requires.hand, c.requires.fits.places) in
    let step : HasFallen g.C.Cost.cost_of part (mirror_met old m value) new = c.lower_mirror.ensures.fallen in
    let more = mirrors-more part start hand mirrors i k m c.requires.at_most_far refl in_hand (omega (arith, owned)) place in
    let len = lowered-length (length part.owned) start.values past in
    record {
      fallen = subst (λ (l : LocalValues). HasFallen g.C.Cost.cost_of part l new) (sym more)
          (mirror-fallen g.C.Cost.cost_of part so_far old new m value (omega (arith, owned)) (omega (arith, len, place)) c.hand.invariant.fallen step);
      at_most_far = mirror-far g.C.Cost.cost_of part old new m value step c.hand.invariant.at_most_far;
      settled = λ h. c.lower_mirror.ensures.settled (c.hand.invariant.settled h);
    }

pub returns-clause-fallen : goal.returns-clause-fallen
returns-clause-fallen g c =
    let part = c.args.part.now in
    let start = c.args.local.now in
    let mirrors = c.mirrors-mirror-items.result.now in
    let i = c.hand.mirror-index in
    let all = ap (λ (hand : List ℕ). shown hand mirrors i) c.values-values.ensures ∙ shown-all c.args.hand.now.values mirrors i c.mirrors-mirror-items.ensures c.hand-test.false in
    subst (λ (hand : List ℕ). HasFallen g.C.Cost.cost_of part (with_mirrors part start hand) c.hand.local) all c.hand.invariant.fallen
