use Rattle.graph_core.proofs.RowLemmas.{detour_is_job, detour_values}
use Rattle.graph_core.proofs.worked.row_values.Goals as goal

pub returns-clause-job : goal.returns-clause-job
returns-clause-job c = detour_is_job

pub returns-clause-values : goal.returns-clause-values
returns-clause-values c = detour_values
