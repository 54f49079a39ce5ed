use Rattle.legal_journal.proofs.Listed
use Rattle.legal_journal.proofs.laws.seals_follow_on.Goals as goal

pub returns-clause-epochs : goal.returns-clause-epochs
returns-clause-epochs c = Listed.epochs_follow

pub returns-clause-found : goal.returns-clause-found
returns-clause-found c = Listed.sealed_are_found

pub returns-clause-add : goal.returns-clause-add
returns-clause-add c = Listed.seals_add
