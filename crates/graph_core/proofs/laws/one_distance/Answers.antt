use Rattle.graph_core.proofs.Relaxation.{distance-one}
use Rattle.graph_core.proofs.laws.one_distance.Goals as goal

pub returns : goal.returns
returns c = distance-one
