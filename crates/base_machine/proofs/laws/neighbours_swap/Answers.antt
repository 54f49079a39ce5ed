use Rattle.base_machine.proofs.Swapping
use Rattle.base_machine.proofs.laws.neighbours_swap.Goals as goal

pub returns : goal.returns
returns c = Swapping.neighbours_swap
