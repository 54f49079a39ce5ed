use Rattle.graph_core.proofs.Distances.{distance-near}
use Rattle.graph_core.proofs.laws.distances_are_near.Goals as goal

pub returns : goal.returns
returns c = distance-near
