use Rattle.token_cut.proofs.Lowering.{late_values_are_met}
use Rattle.token_cut.proofs.laws.late_values_are_met.Goals as goal

pub returns : goal.returns
returns c = late_values_are_met
