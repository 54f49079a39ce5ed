use Rattle.std.proofs.Common.{◌∙◌, ap, arith}
use Rattle.message_buffer.specs.Buffers.{waiting_in}
use Rattle.message_buffer.proofs.Listing.{listed-few, valued-both}
use Rattle.message_buffer.proofs.Kept.{kept-length}
use Rattle.message_buffer.proofs.buffer.Buffer.waiting.Goals as goal

pub overflow_cast-result : goal.overflow_cast-result
overflow_cast-result c =
    let b = c.self.inside in
    let kept = c.self.invariant.0 in
    let few = listed-few _ _ _ kept.listed in
    let same = kept-length b.order b.plain.items b.tagged.items b.mirrors.items _ _ kept in
    let bound = kept.few in
    let listed = b.mirrors.ok.0 in
    let len = c.len.ensures in
    omega (arith, few, same, bound, listed, len)

pub returns : goal.returns
returns c =
    let b = c.self.inside in
    let kept = c.self.invariant.0 in
    c.len.ensures ∙ b.mirrors.ok.0 ∙ kept.listed.count ∙ valued-both b.order b.plain.items b.tagged.items kept.same kept.plain_fits kept.tagged_fits ∙ ap waiting_in c.self.view_is
