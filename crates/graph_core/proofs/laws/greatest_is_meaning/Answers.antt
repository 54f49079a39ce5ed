use Rattle.graph_core.proofs.Values.{job-meaning}
use Rattle.graph_core.proofs.Labels.{label-meaning}
use Rattle.graph_core.proofs.Reaches.{reach-meaning}
use Rattle.graph_core.proofs.Distances.{distance-meaning}
use Rattle.graph_core.proofs.laws.greatest_is_meaning.Goals as goal

pub returns-clause-job : goal.returns-clause-job
returns-clause-job c = job-meaning

pub returns-clause-dist : goal.returns-clause-dist
returns-clause-dist c = distance-meaning

pub returns-clause-label : goal.returns-clause-label
returns-clause-label c = label-meaning

pub returns-clause-reach : goal.returns-clause-reach
returns-clause-reach c = reach-meaning
