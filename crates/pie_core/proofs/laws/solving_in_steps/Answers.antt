use Rattle.pie_core.proofs.Steps.{solving_in_steps}
use Rattle.pie_core.proofs.laws.solving_in_steps.Goals as goal

pub returns : goal.returns
returns c = solving_in_steps
