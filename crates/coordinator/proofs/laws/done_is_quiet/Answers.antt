use Rattle.coordinator.proofs.Done
use Rattle.coordinator.proofs.laws.done_is_quiet.Goals as goal

pub returns : goal.returns
returns c = Done.done_is_quiet c.end_is_quiet.ensures c.journals_grow.ensures
