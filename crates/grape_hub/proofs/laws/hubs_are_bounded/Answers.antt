use Rattle.grape_hub.proofs.Answering
use Rattle.grape_hub.proofs.laws.hubs_are_bounded.Goals as goal

pub returns : goal.returns
returns c = Answering.hubs_are_bounded
