use Rattle.pie_core.proofs.Steps.{solved_is_ready_again}
use Rattle.pie_core.proofs.laws.solved_is_ready_again.Goals as goal

pub returns : goal.returns
returns c = solved_is_ready_again
