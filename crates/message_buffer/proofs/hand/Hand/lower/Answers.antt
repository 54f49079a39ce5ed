use Rattle.std.proofs.Common.{◌<◌, length, ◌∙◌, ap, subst, sym, arith}
use Rattle.std.specs.Vec.{vec_capacity}
use Rattle.std.proofs.lemmas.List.{get_or_default}
use Rattle.value_order.specs.declared.TheConstants.{NOTHING}
use Rattle.message_buffer.specs.declared.hand.HandLists.{HandLists}
use Rattle.message_buffer.specs.Listed.{IsListed}
use Rattle.message_buffer.proofs.Listing.{listed-room, listed-lowered}
use Rattle.message_buffer.proofs.hand.Hand.lower.Goals as goal

pub enlist-requires : goal.enlist-requires
enlist-requires c e =
    let b = c.deref_mut-lists.result.now in
    let listed = subst (λ (l : HandLists). IsListed l.values.items l.mirrors.items (vec_capacity l.mirrors)) (sym c.deref_mut-lists.ensures.value) c.self.invariant in
    let m = c.args.mirror in
    let inside : m < length b.values.items = let h = c.requires.mirror in let v = ap (λ x. length x.values) c.self.view_is in let w = ap (λ (l : HandLists). length l.values.items) c.deref_mut-lists.ensures.value in omega (arith, h, v, w) in
    listed-room b.values.items b.mirrors.items _ m listed inside (get_or_default b.values.items m 0 _ inside ∙ sym c.index-before.ensures ∙ e)

pub invariant_of-self : goal.invariant_of-self
invariant_of-self c =
    let b = c.deref_mut-lists.result.now in
    let listed = subst (λ (l : HandLists). IsListed l.values.items l.mirrors.items (vec_capacity l.mirrors)) (sym c.deref_mut-lists.ensures.value) c.self.invariant in
    let m = c.args.mirror in
    let inside : m < length b.values.items = let h = c.requires.mirror in let v = ap (λ x. length x.values) c.self.view_is in let w = ap (λ (l : HandLists). length l.values.items) c.deref_mut-lists.ensures.value in omega (arith, h, v, w) in
    let low : c.args.value < NOTHING = let f = c.ranges.value.fits in let n = c.requires.value in omega (arith, f, n) in
    listed-lowered b.order b.values.items b.mirrors.items _ m c.args.value c.index-before.result.now c.meet.result _ _ listed inside low
    (c.index-before.ensures ∙ get_or_default b.values.items m _ 0 inside) c.meet.ensures c.enlist.ensures.items c.enlist.ensures.capacity
