use Rattle.std.proofs.Common.{◌≡◌, replicate, rules, arith, subst, sym}
use Rattle.std.specs.Vec.{vec_capacity}
use Rattle.value_order.specs.declared.TheConstants.{NOTHING}
use Rattle.message_buffer.specs.declared.hand.HandLists.{HandLists}
use Rattle.message_buffer.specs.Listed.{IsListed}
use Rattle.message_buffer.proofs.Listing.{listed-made}
use Rattle.message_buffer.proofs.hand.Hand.new.Goals as goal

pub invariant_of-result : goal.invariant_of-result
invariant_of-result c =
    let room = c.in_ok-with_capacity.ensures.exact in
    let values : c.in_ok-vec.field-0.items ≡ replicate c.args.mirrors NOTHING = search rules in
    subst (λ (l : HandLists). IsListed l.values.items l.mirrors.items (vec_capacity l.mirrors)) (sym c.in_ok-new.ensures.ok) (listed-made c.args.mirrors _ _ _ values c.in_ok-with_capacity.ensures.items (omega (arith, room)))
