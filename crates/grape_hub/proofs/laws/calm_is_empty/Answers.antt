use Rattle.grape_hub.proofs.NoteLaws
use Rattle.grape_hub.proofs.laws.calm_is_empty.Goals as goal

pub returns : goal.returns
returns c = NoteLaws.calm_is_empty
