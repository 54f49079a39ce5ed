use Rattle.graph_core.proofs.Turned.{readers_turned}
use Rattle.graph_core.proofs.laws.readers_are_turned_readings.Goals as goal

pub returns : goal.returns
returns c = readers_turned
