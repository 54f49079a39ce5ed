use Rattle.coordinator.proofs.Beginnings.{entries_may_begin}
use Rattle.coordinator.proofs.laws.entries_may_begin.Goals as goal

pub returns : goal.returns
returns c = entries_may_begin c.fresh_is_a_start.ensures c.shapes_begin_runs.ensures c.forms_agree.ensures
