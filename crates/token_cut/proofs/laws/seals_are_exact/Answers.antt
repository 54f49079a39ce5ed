use Rattle.token_cut.proofs.Marking.{seals_are_exact}
use Rattle.token_cut.proofs.laws.seals_are_exact.Goals as goal

pub returns : goal.returns
returns c = seals_are_exact
