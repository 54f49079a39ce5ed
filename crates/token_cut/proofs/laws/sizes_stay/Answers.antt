use Rattle.token_cut.proofs.Sizing.{sizes_stay}
use Rattle.token_cut.proofs.laws.sizes_stay.Goals as goal

pub returns : goal.returns
returns c = sizes_stay
