use Rattle.legal_journal.proofs.Walks
use Rattle.legal_journal.proofs.laws.journals_grow.Goals as goal

pub returns : goal.returns
returns c = Walks.journals_grow
