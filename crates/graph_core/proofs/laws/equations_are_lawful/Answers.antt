use Rattle.graph_core.proofs.Lawful.{lawful}
use Rattle.graph_core.proofs.laws.equations_are_lawful.Goals as goal

pub returns-clause-any_query : goal.returns-clause-any_query
returns-clause-any_query c = lawful

pub returns-clause-job : goal.returns-clause-job
returns-clause-job c = λ job h. lawful job.graph job.query h.graph
