use Rattle.std.proofs.Common.{sym, ◌∙◌, ap}
use Rattle.token_cut.specs.Shapes.{size_of}
use Rattle.token_cut.proofs.Copying.{alike_at, one_written}
use Rattle.token_cut.proofs.part.copy_parts.Goals as goal

pub copy_from-requires : goal.copy_from-requires
copy_from-requires c =
    ap size_of (sym c.index-to-k.is)
    ∙ alike_at c.loop-k.to c.args.parts.now c.loop-k.k c.index-to-k.result c.index-parts-k.result c.loop-k.invariant.sizes c.loop-k-test.true c.index-to-k.is c.index-parts-k.is

pub loop-k-preserved : goal.loop-k-preserved
loop-k-preserved c =
    one_written c.args.parts.now c.args.to.now c.loop-k.to c.loop-k.k c.index-parts-k.result c.index-to-k.result c.copy_from.new.self
    c.requires c.loop-k.invariant c.loop-k-test.true c.index-parts-k.is c.index-to-k.is c.copy_from.ensures
