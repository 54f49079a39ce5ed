use Rattle.grape_run.proofs.Resuming
use Rattle.grape_run.proofs.laws.files_stay_resumable.Goals as goal

pub returns-clause-stay : goal.returns-clause-stay
returns-clause-stay c = Resuming.files_stay_resumable

pub returns-clause-fit : goal.returns-clause-fit
returns-clause-fit c = Resuming.resumed_starts_are_fit
