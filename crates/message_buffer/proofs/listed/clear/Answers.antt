use Rattle.std.proofs.Common.{arith, refl, ap, ◌∙◌}
use Rattle.std.proofs.Common.{replicate}
use Rattle.value_order.specs.declared.TheConstants.{NOTHING}
use Rattle.message_buffer.proofs.Listing.{listed-from, cleared-more, cleared-all}
use Rattle.message_buffer.proofs.listed.clear.Goals as goal

pub clear-init : goal.clear-init
clear-init c = listed-from _ _ c.requires

pub clear-preserved : goal.clear-preserved
clear-preserved c =
    let inside = c.requires.only c.clear.mirror-index 0 c.clear-test.true in
    let same = c.clear.auto.values in
    cleared-more c.clear.values c.args.mirrors.now c.clear.mirror-index _ c.clear.invariant refl (omega (arith, inside, same))

pub returns : goal.returns
returns c = cleared-all c.clear.values c.args.mirrors.now c.clear.mirror-index c.clear.invariant c.clear-test.false ∙ ap (λ n. replicate n NOTHING) c.clear.auto.values
