use Rattle.std.proofs.Common.{◌≡◌, length, ◌∙◌, ap, sym, arith, lit<}
use Rattle.std.proofs.lemmas.List.{length-replicate}
use Rattle.value_order.specs.declared.TheConstants.{NOTHING}
use Rattle.message_buffer.proofs.Kept.{kept-made, written-back}
use Rattle.message_buffer.proofs.buffer.Buffer.take.Goals as goal

pub invariant_of-self : goal.invariant_of-self
invariant_of-self c =
    let b = c.self.inside in
    let n = length c.args.hand.now.values in
    let kept = c.self.invariant.0 in
    let left = c.trade.ensures.tagged in
    let count : length c.trade.new.tagged ≡ n = ap length left ∙ length-replicate n NOTHING in
    let mirrors : n ≡ length b.plain.items = c.requires.mirrors ∙ sym (ap (λ x. length x.plain) c.self.view_is) in
    let back = written-back b.tagged.len b.tagged.items c.trade.new.tagged (sym b.tagged.ok.0) (count ∙ mirrors ∙ sym kept.same ∙ sym b.tagged.ok.0) in
    (kept-made b.order n _ _ _ _ c.trade.ensures.plain (back ∙ left) c.trade.ensures.mirrors (let few = kept.few in omega (arith, few, mirrors)) c.trade.ensures.room, lit< tt)
