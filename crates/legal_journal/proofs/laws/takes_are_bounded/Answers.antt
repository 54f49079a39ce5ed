use Rattle.legal_journal.proofs.Bounded
use Rattle.legal_journal.proofs.laws.takes_are_bounded.Goals as goal

pub returns : goal.returns
returns c = Bounded.takes_are_bounded
