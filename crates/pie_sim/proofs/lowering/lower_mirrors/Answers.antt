use Rattle.std.specs.Prelude.{slice_set}
use Rattle.std.proofs.Common.{◌≡◌, ◌+◌, ◌<◌, refl, sym, ◌∙◌, ap, subst, arith, length, take, slice_index, bit_and}
use Rattle.std.proofs.lemmas.List.{take_all}
use Rattle.value_order.specs.declared.order.Order.TheVariants.{Mask}
use Rattle.value_order.proofs.Orders.{meet-below_left}
use Rattle.pie_sim.proofs.Steps.{tested-settled}
use Rattle.pie_sim.proofs.Mirrors.{AreMet, met-none, met-more, met-all, met-fits}
use Rattle.pie_sim.proofs.lowering.lower_mirrors.Goals as goal

pub hand-init : goal.hand-init
hand-init c = record { met = met-none (length c.args.part.now.owned) c.args.hand.now.values c.args.local.now.values; before = refl; counters = refl; settled = λ targets h. h }

pub lower-requires-clause-fits : goal.lower-requires-clause-fits
lower-requires-clause-fits c = met-fits c.args.part.now c.args.local.now c.hand.local c.hand.invariant.met.places c.hand.invariant.before c.requires.fits

pub lower-requires-clause-below : goal.lower-requires-clause-below
lower-requires-clause-below c =
    let mirror = slice_index c.mirrors-mirror-items.result.now c.hand.mirror-index in
    let m = length c.owned-owned.result.now + mirror in
    let value = slice_index c.values-in-hand.result.now mirror in
    let here = slice_index c.values.result.now m in
    let same : here ≡ slice_index c.hand.local.values m = ap (λ xs. slice_index xs m) c.values.ensures.values in
    subst (λ n. bit_and (bit_and here value) n ≡ bit_and here value) same (meet-below_left Mask here value)

pub hand-preserved : goal.hand-preserved
hand-preserved c =
    let part = c.args.part.now in
    let start = c.args.local.now in
    let hand = c.args.hand.now.values in
    let n = length part.owned in
    let mirrors = c.mirrors-mirror-items.result.now in
    let k = c.hand.mirror-index in
    let mirror = slice_index mirrors k in
    let old = c.hand.local in
    let new = c.lower.new.local in
    let so_far = c.hand.invariant in
    let step = c.lower.ensures.lowered in
    let owned = ap length c.owned-owned.ensures.owned in
    let only = c.mirrors-mirror-items.ensures.only k 0 c.hand-test.true in
    let placed : n + mirror < length start.values = omega (arith, only, c.requires.hand, c.requires.fits.places) in
    let at : length c.owned-owned.result.now + mirror ≡ n + mirror = omega (arith, owned) in
    let values : new.values ≡ slice_set old.values (n + mirror) (bit_and (slice_index old.values (n + mirror)) (slice_index hand mirror)) =
    step.values
    ∙ ap (λ xs. slice_set old.values (length c.owned-owned.result.now + mirror) (bit_and (slice_index xs (length c.owned-owned.result.now + mirror)) (slice_index c.values-in-hand.result.now mirror))) c.values.ensures.values
    ∙ ap (λ hs. slice_set old.values (length c.owned-owned.result.now + mirror) (bit_and (slice_index old.values (length c.owned-owned.result.now + mirror)) (slice_index hs mirror))) c.values-in-hand.ensures
    ∙ ap (λ i. slice_set old.values i (bit_and (slice_index old.values i) (slice_index hand mirror))) at in
    let value = bit_and (slice_index c.values.result.now (length c.owned-owned.result.now + mirror)) (slice_index c.values-in-hand.result.now mirror) in
    let inside : length c.owned-owned.result.now + mirror < length old.values = omega (arith, placed, at, so_far.met.places) in
    record {
      met = subst (λ xs. AreMet n hand start.values xs (take (k + 1) mirrors)) (sym values) (met-more n hand start.values old.values mirrors k c.hand-test.true so_far.met placed);
      before = step.before ∙ so_far.before;
      counters = c.lower.ensures.counters ∙ so_far.counters;
      settled = λ targets h. tested-settled targets part old new (length c.owned-owned.result.now + mirror) value step inside (λ l. absurd (omega (arith, l, owned))) (λ q l d. so_far.settled targets h q l);
    }

pub returns-clause-values : goal.returns-clause-values
returns-clause-values c =
    let part = c.args.part.now in
    let mirrors = c.mirrors-mirror-items.result.now in
    met-all (length part.owned) c.args.hand.now.values c.args.local.now.values c.hand.local.values mirrors (omega (arith, c.requires.hand, c.requires.fits.places)) c.requires.values c.mirrors-mirror-items.ensures
    (subst (λ ms. AreMet (length part.owned) c.args.hand.now.values c.args.local.now.values c.hand.local.values ms) (take_all c.hand.mirror-index mirrors c.hand-test.false) c.hand.invariant.met)
