use Rattle.coordinator.proofs.Done
use Rattle.coordinator.proofs.laws.done_is_the_answer.Goals as goal

pub returns : goal.returns
returns c = Done.done_is_the_answer c.end_is_quiet.ensures c.journals_grow.ensures c.journal_runs.ensures
