use Rattle.legal_journal.proofs.Sealing
use Rattle.legal_journal.proofs.laws.cuts_are_consistent.Goals as goal

pub returns-clause-cut : goal.returns-clause-cut
returns-clause-cut c = Sealing.cuts_are_consistent

pub returns-clause-epochs : goal.returns-clause-epochs
returns-clause-epochs c = Sealing.epochs_are_in_range

pub returns-clause-form : goal.returns-clause-form
returns-clause-form c = Sealing.sealed_are_in_form

pub returns-clause-fit : goal.returns-clause-fit
returns-clause-fit c = Sealing.cuts_are_fit

pub returns-clause-resumed : goal.returns-clause-resumed
returns-clause-resumed c = Sealing.sealed_are_fit
