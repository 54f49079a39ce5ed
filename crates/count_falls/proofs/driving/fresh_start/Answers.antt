use Rattle.std.proofs.Common.{inl, ◌∙◌, ap}
use Rattle.token_cut.specs.Shapes.{Starts, fresh_snapshot}
use Rattle.count_falls.proofs.driving.fresh_start.Goals as goal

pub returns : goal.returns
returns c = c.entries_may_begin.ensures c.args.job.now c.requires.job c.in_ok-start.start (inl (c.in_ok-start.ensures ∙ ap (λ (s : Starts). fresh_snapshot s) c.in_ok-shape.ensures.shape))
