use Rattle.grape_hub.proofs.Lanes.{works_may_be_evaluated, evaluated_may_be_given}
use Rattle.grape_hub.proofs.laws.works_go_round.Goals as goal

pub returns-clause-evaluated : goal.returns-clause-evaluated
returns-clause-evaluated c = works_may_be_evaluated

pub returns-clause-given : goal.returns-clause-given
returns-clause-given c = evaluated_may_be_given
