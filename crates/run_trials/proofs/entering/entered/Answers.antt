use Rattle.std.proofs.Common.{inl, ◌∙◌, ap}
use Rattle.token_cut.specs.Shapes.{Starts, fresh_snapshot}
use Rattle.run_trials.proofs.entering.entered.Goals as goal

pub returns-clause-start : goal.returns-clause-start
returns-clause-start c = c.entries_may_begin.ensures c.args.job.now c.requires.job c.in-Ok.entry.start (inl (c.in-Ok.ensures.start ∙ ap (λ (s : Starts). fresh_snapshot s) c.requires.shape))
