-- two trials of each fragment so far
use Rattle.std.proofs.Common.{◌≡◌, ◌*◌, length}
use Rattle.graph_core.specs.Fragments.{fragment_of}
use Rattle.program_trials.specs.Trials.{HasTrialsOf}
use Rattle.program_trials.proofs.trials_of_parts.trials.Given as goal

abbrev pub invariant-parts : goal.invariant-parts
invariant-parts g l = record {
  count : length l.trials.items ≡ 2 * l.part-index;
  made : HasTrialsOf (g.P.Pie.equations l.program l.job) (fragment_of l.job) l.part-index l.trials.items;
}
