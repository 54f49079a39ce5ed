use Rattle.base_machine.proofs.Bounded
use Rattle.base_machine.proofs.laws.runs_are_bounded.Goals as goal

pub returns : goal.returns
returns c = Bounded.runs_are_bounded
