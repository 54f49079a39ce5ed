use Rattle.grape_hub.proofs.Idling
use Rattle.grape_hub.proofs.laws.idle_is_quiet.Goals as goal

pub returns : goal.returns
returns c = Idling.idle_is_quiet
