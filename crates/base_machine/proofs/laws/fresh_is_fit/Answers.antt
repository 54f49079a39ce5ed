use Rattle.base_machine.proofs.Beginning
use Rattle.base_machine.proofs.laws.fresh_is_fit.Goals as goal

pub returns : goal.returns
returns c = Beginning.fresh_is_fit
