use Rattle.pie_flood.proofs.WorkedJobs.{label_is_for}
use Rattle.pie_flood.proofs.worked.label_values.Goals as goal

pub returns-clause-job : goal.returns-clause-job
returns-clause-job c = label_is_for
