use Rattle.coordinator.proofs.Beginnings
use Rattle.coordinator.proofs.laws.shapes_begin_runs.Goals as goal

pub returns : goal.returns
returns c = Beginnings.shapes_begin_runs
