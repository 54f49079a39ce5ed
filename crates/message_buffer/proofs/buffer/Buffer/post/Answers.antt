use Rattle.std.proofs.Common.{◌<◌, length, slice_index, ◌∙◌, ap, sym, arith}
use Rattle.std.proofs.lemmas.List.{get_or_default}
use Rattle.value_order.specs.Order.{meet_of}
use Rattle.value_order.specs.declared.TheConstants.{NOTHING}
use Rattle.message_buffer.proofs.Kept.{kept-room, kept-tagged, kept-plain}
use Rattle.message_buffer.proofs.buffer.Buffer.post.Goals as goal

pub enlist-requires : goal.enlist-requires
enlist-requires c e =
    let b = c.self.inside in
    let m = c.args.mirror in
    let inside : m < length b.plain.items = let h = c.requires.mirror in let v = ap (λ x. length x.plain) c.self.view_is in omega (arith, h, v) in
    kept-room b.order b.plain.items b.tagged.items b.mirrors.items _ _ c.self.invariant.0 m inside
    (sym (c.value_of-before.ensures ∙ (λ t. meet_of b.order (slice_index (c.deref.ensures.value t) m) (slice_index (c.deref-2.ensures.value t) m))) ∙ e)

pub invariant_of-self : goal.invariant_of-self
invariant_of-self c =
    let b = c.self.inside in
    let m = c.args.mirror in
    let inside : m < length b.plain.items = let h = c.requires.mirror in let v = ap (λ x. length x.plain) c.self.view_is in omega (arith, h, v) in
    let same = c.self.invariant.0.same in
    let low : c.args.value < NOTHING = let f = c.ranges.value.fits in let n = c.requires.value in omega (arith, f, n) in
    let before = c.value_of-before.ensures ∙ (λ t. meet_of b.order (slice_index (c.deref.ensures.value t) m) (slice_index (c.deref-2.ensures.value t) m)) in
    let met = c.meet.ensures ∙ ap (λ x. meet_of b.order x c.args.value) (c.index.ensures ∙ get_or_default b.tagged.items m _ 0 (omega (arith, inside, same))) in
    (kept-tagged b.order b.plain.items b.tagged.items b.mirrors.items _ _ c.self.invariant.0 m c.args.value c.meet.result c.value_of-before.result _ _ c.enlist.ensures.items c.enlist.ensures.capacity inside low before met c.meet.type_inv, c.self.invariant.1)

pub invariant_of-self-else-tagged : goal.invariant_of-self-else-tagged
invariant_of-self-else-tagged c =
    let b = c.self.inside in
    let m = c.args.mirror in
    let inside : m < length b.plain.items = let h = c.requires.mirror in let v = ap (λ x. length x.plain) c.self.view_is in omega (arith, h, v) in
    let low : c.args.value < NOTHING = let f = c.ranges.value.fits in let n = c.requires.value in omega (arith, f, n) in
    let before = c.value_of-before.ensures ∙ (λ t. meet_of b.order (slice_index (c.deref.ensures.value t) m) (slice_index (c.deref-2.ensures.value t) m)) in
    let met = c.meet-else-tagged.ensures ∙ ap (λ x. meet_of b.order x c.args.value) (c.index-else-tagged.ensures ∙ get_or_default b.plain.items m _ 0 inside) in
    (kept-plain b.order b.plain.items b.tagged.items b.mirrors.items _ _ c.self.invariant.0 m c.args.value c.meet-else-tagged.result c.value_of-before.result _ _ c.enlist.ensures.items c.enlist.ensures.capacity inside low before met c.meet-else-tagged.type_inv, c.self.invariant.1)
