use Rattle.legal_journal.proofs.Ledger
use Rattle.legal_journal.proofs.laws.events_are_bounded.Goals as goal

pub returns-clause-ledger : goal.returns-clause-ledger
returns-clause-ledger c = Ledger.events_follow_takes

pub returns-clause-bound : goal.returns-clause-bound
returns-clause-bound c = Ledger.events_are_bounded
