use Rattle.hub_engine.proofs.Formed.{hub_runs}
use Rattle.grape_hub.proofs.laws.hubs_run.Goals as goal

pub returns : goal.returns
returns c = hub_runs
