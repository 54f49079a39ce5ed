use Rattle.std.proofs.Common.{◌≡◌, replicate, rules, arith, lit<}
use Rattle.value_order.specs.declared.TheConstants.{NOTHING}
use Rattle.message_buffer.proofs.Kept.{kept-made}
use Rattle.message_buffer.proofs.buffer.Buffer.new.Goals as goal

pub invariant_of-result : goal.invariant_of-result
invariant_of-result c =
    let room = c.in_ok-with_capacity.ensures.exact in
    let few = c.ranges.mirrors.fits in
    let plain : c.in_ok-vec.field-0.items ≡ replicate c.args.mirrors NOTHING = search rules in
    let tagged : c.in_ok-vec-2.field-0.items ≡ replicate c.args.mirrors NOTHING = search rules in
    (kept-made c.args.order c.args.mirrors _ _ _ _ plain tagged c.in_ok-with_capacity.ensures.items (omega (arith, few)) (omega (arith, room)), lit< tt)
