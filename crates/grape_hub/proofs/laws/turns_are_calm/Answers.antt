use Rattle.grape_hub.proofs.Calm.{calm_is_free, calm_at_beginning, calm_after_turn, calm_after_other}
use Rattle.grape_hub.proofs.laws.turns_are_calm.Goals as goal

pub returns-clause-free : goal.returns-clause-free
returns-clause-free c = calm_is_free

pub returns-clause-beginning : goal.returns-clause-beginning
returns-clause-beginning c = calm_at_beginning

pub returns-clause-turn : goal.returns-clause-turn
returns-clause-turn c = calm_after_turn

pub returns-clause-other : goal.returns-clause-other
returns-clause-other c = calm_after_other
