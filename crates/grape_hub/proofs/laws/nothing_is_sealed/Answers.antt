use Rattle.grape_hub.proofs.Without.{nothing_is_sealed}
use Rattle.grape_hub.proofs.laws.nothing_is_sealed.Goals as goal

pub returns : goal.returns
returns c = nothing_is_sealed
