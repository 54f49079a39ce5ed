use Rattle.std.proofs.Common.{◌≡◌, ◌+◌, ◌<◌, sym, ◌∙◌, ap, arith, length, take, slice_index}
use Rattle.pie_core.specs.Locals.{LocalValues}
use Rattle.pie_lowering.specs.Lowering.{with_mirrors}
use Rattle.pie_lowering.proofs.Mirrors.{mirror_met, lowered-length}
use Rattle.pie_dist.proofs.TakenMirrors.{no-mirrors, mirrors-more}
use Rattle.pie_dist.proofs.plain.meet_mirrors.Goals as goal

pub hand-init : goal.hand-init
hand-init c = sym (no-mirrors c.args.part.now c.args.local.now)

pub meet_place-requires : goal.meet_place-requires
meet_place-requires c =
    let part = c.args.part.now in
    let start = c.args.local.now in
    let hand = c.args.hand.now.values in
    let k = c.hand.mirror in
    let owned = ap length c.owned-owned.ensures.owned in
    let items = ap length c.values-value-items.ensures in
    let in_hand : k < length hand = omega (arith, c.hand-test.true, items) in
    let len = lowered-length (length part.owned) start.values (take k hand) in
    let now = ap (λ (l : LocalValues). length l.values) c.hand.invariant in
    omega (arith, owned, in_hand, len, now, c.requires.hand, c.requires.fits.places)

pub hand-preserved : goal.hand-preserved
hand-preserved c =
    let part = c.args.part.now in
    let start = c.args.local.now in
    let hand = c.args.hand.now.values in
    let k = c.hand.mirror in
    let m = length c.owned-owned.result.now + k in
    let so_far : LocalValues = with_mirrors part start (take k hand) in
    let value = slice_index hand k in
    let same : slice_index c.values-value-items.result.now k ≡ value = ap (λ xs. slice_index xs k) c.values-value-items.ensures in
    let owned = ap length c.owned-owned.ensures.owned in
    let items = ap length c.values-value-items.ensures in
    let in_hand : k < length hand = omega (arith, c.hand-test.true, items) in
    let place : m < length start.values = omega (arith, owned, in_hand, c.requires.hand, c.requires.fits.places) in
    c.meet_place.ensures ∙ ap (λ n. mirror_met c.hand.local m n) same ∙ ap (λ (l : LocalValues). mirror_met l m value) c.hand.invariant
    ∙ sym (mirrors-more part start hand k m in_hand (omega (arith, owned)) place)
