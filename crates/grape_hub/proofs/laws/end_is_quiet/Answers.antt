use Rattle.grape_hub.proofs.Idling
use Rattle.grape_hub.proofs.laws.end_is_quiet.Goals as goal

pub returns : goal.returns
returns c = Idling.end_is_quiet
