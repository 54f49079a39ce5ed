use Rattle.legal_journal.proofs.Choosing
use Rattle.legal_journal.proofs.laws.choices_are_exact.Goals as goal

pub returns-clause-lane : goal.returns-clause-lane
returns-clause-lane c = Choosing.lane_choices_are_exact

pub returns-clause-duty : goal.returns-clause-duty
returns-clause-duty c = Choosing.duties_are_exact
