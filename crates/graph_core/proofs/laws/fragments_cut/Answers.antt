use Rattle.graph_core.proofs.Cutting
use Rattle.graph_core.proofs.laws.fragments_cut.Goals as goal

pub returns : goal.returns
returns c = Cutting.fragments_cut
