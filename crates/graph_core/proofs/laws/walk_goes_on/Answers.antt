use Rattle.graph_core.proofs.WalkLemmas.{goes_on, weight-goes_on}
use Rattle.graph_core.proofs.laws.walk_goes_on.Goals as goal

pub returns : goal.returns
returns c = λ g u walk e w h. (goes_on g u walk e w h, weight-goes_on walk e)
