use Rattle.base_machine.proofs.Slots
use Rattle.base_machine.proofs.laws.slots_hold_starts.Goals as goal

pub returns : goal.returns
returns c = Slots.slots_hold_starts
