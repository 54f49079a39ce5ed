use Rattle.graph_core.proofs.Values.{values_there, values_one}
use Rattle.graph_core.proofs.laws.values_are_there.Goals as goal

pub returns-clause-there : goal.returns-clause-there
returns-clause-there c = values_there

pub returns-clause-only : goal.returns-clause-only
returns-clause-only c = values_one
