use Rattle.grape_hub.proofs.Cuts
use Rattle.grape_hub.proofs.laws.cuts_are_consistent.Goals as goal

pub returns-clause-cut : goal.returns-clause-cut
returns-clause-cut c = Cuts.cuts_are_consistent

pub returns-clause-resumed : goal.returns-clause-resumed
returns-clause-resumed c = Cuts.sealed_may_be_resumed
