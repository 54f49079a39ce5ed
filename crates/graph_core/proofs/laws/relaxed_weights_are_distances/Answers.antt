use Rattle.graph_core.proofs.Relaxation.{relaxed_weights}
use Rattle.graph_core.proofs.laws.relaxed_weights_are_distances.Goals as goal

pub returns : goal.returns
returns c = λ g sources x h r v l w. relaxed_weights g sources h x r v l w
