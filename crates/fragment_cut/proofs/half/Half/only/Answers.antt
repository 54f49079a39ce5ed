use Rattle.std.proofs.Common.{◌∙◌, ap}
use Rattle.graph_core.specs.Fragments.{numbers_below}
use Rattle.fragment_cut.proofs.OnlyFragment.{only_half}
use Rattle.fragment_cut.proofs.half.Half.only.Goals as goal

pub returns : goal.returns
returns c =
    only_half c.args.job.now c.requires.job c.requires.fragments c.in_ok-owned.owned.items c.new.result.items c.args.reads c.args.readers
    (c.in_ok-owned.ensures ∙ ap numbers_below c.count.ensures.count) c.new.ensures.items c.requires.reads c.requires.readers
