use Rattle.graph_core.proofs.FragmentRows.{fragment_is_one}
use Rattle.graph_core.proofs.laws.fragments_are_whole.Goals as goal

pub returns : goal.returns
returns c = fragment_is_one
