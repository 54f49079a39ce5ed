use Rattle.base_machine.proofs.Resuming
use Rattle.base_machine.proofs.laws.snapshot_is_fit.Goals as goal

pub returns : goal.returns
returns c = Resuming.snapshot_is_fit
