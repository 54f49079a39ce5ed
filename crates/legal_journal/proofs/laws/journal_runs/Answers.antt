use Rattle.legal_journal.proofs.Journals
use Rattle.legal_journal.proofs.laws.journal_runs.Goals as goal

pub returns : goal.returns
returns c = Journals.journal_runs
