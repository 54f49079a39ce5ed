use Rattle.graph_core.proofs.GraphLemmas.{graph_of_is_graph}
use Rattle.graph_core.proofs.laws.made_graph_is_one.Goals as goal

pub returns : goal.returns
returns c = graph_of_is_graph
