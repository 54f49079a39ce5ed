use Rattle.program_trials.proofs.HandValues.{IsFilledTo}
use Rattle.program_trials.proofs.evaluation.hand_of.Given as goal

abbrev pub invariant-mirrors : goal.invariant-mirrors
invariant-mirrors l = IsFilledTo l.every l.value l.mirrors l.mirror l.hand.values
