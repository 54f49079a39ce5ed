use Rattle.grape_hub.proofs.Answering
use Rattle.grape_hub.proofs.laws.fresh_is_a_start.Goals as goal

pub returns : goal.returns
returns c = Answering.fresh_is_a_start
