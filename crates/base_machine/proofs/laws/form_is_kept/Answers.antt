use Rattle.base_machine.proofs.Forming
use Rattle.base_machine.proofs.laws.form_is_kept.Goals as goal

pub returns : goal.returns
returns c = Forming.form_is_kept
