use Rattle.std.proofs.Common.{◌≡◌, length, replicate, ◌∙◌, ap, sym, arith}
use Rattle.std.proofs.lemmas.List.{length-replicate}
use Rattle.value_order.specs.declared.TheConstants.{NOTHING}
use Rattle.message_buffer.specs.Buffers.{meets_of}
use Rattle.message_buffer.proofs.Kept.{kept-folded, kept-length, written-back}
use Rattle.message_buffer.proofs.buffer.Buffer.fold.Goals as goal

pub invariant_of-self : goal.invariant_of-self
invariant_of-self c =
    let b = c.self.inside in
    let n = length b.plain.items in
    let kept = c.self.invariant.0 in
    let met : c.merge.new.values ≡ meets_of b.order b.plain.items b.tagged.items = c.merge.ensures.met ∙ (λ t. meets_of b.order (c.deref_mut.ensures.value t) (c.deref_mut-2.ensures.value t)) in
    let left : c.merge.new.others ≡ replicate n NOTHING = c.merge.ensures.left ∙ (λ t. replicate (length (c.deref_mut.ensures.value t)) NOTHING) in
    let count = ap length met ∙ kept-length b.order b.plain.items b.tagged.items b.mirrors.items _ _ kept in
    let values = written-back b.plain.len b.plain.items c.merge.new.values (sym b.plain.ok.0) (count ∙ sym b.plain.ok.0) in
    let others = written-back b.tagged.len b.tagged.items c.merge.new.others (sym b.tagged.ok.0) (ap length left ∙ length-replicate n NOTHING ∙ sym kept.same ∙ sym b.tagged.ok.0) in
    let batches = c.self.invariant.1 in
    (kept-folded b.order b.plain.items b.tagged.items b.mirrors.items _ _ kept _ _ (values ∙ met) (others ∙ left), omega (arith, batches))
