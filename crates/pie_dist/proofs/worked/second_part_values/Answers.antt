use Rattle.pie_dist.proofs.WorkedParts.{row_is_for}
use Rattle.pie_dist.proofs.worked.second_part_values.Goals as goal

pub returns-clause-job : goal.returns-clause-job
returns-clause-job c = row_is_for
