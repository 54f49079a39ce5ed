use Rattle.grape_hub.proofs.Kepts
use Rattle.grape_hub.proofs.laws.kepts_follow_seals.Goals as goal

pub returns-clause-kept : goal.returns-clause-kept
returns-clause-kept c = Kepts.kepts_follow_seals

pub returns-clause-resumed : goal.returns-clause-resumed
returns-clause-resumed c = Kepts.cuts_may_be_resumed
