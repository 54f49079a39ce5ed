use Rattle.graph_core.proofs.WalkLemmas.{relaxed-le}
use Rattle.graph_core.proofs.laws.no_walk_is_shorter.Goals as goal

pub returns : goal.returns
returns c = relaxed-le
