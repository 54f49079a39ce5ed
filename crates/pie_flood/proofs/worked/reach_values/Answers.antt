use Rattle.pie_flood.proofs.WorkedJobs.{reach_is_for}
use Rattle.pie_flood.proofs.worked.reach_values.Goals as goal

pub returns-clause-job : goal.returns-clause-job
returns-clause-job c = reach_is_for
