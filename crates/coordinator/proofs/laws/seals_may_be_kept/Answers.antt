use Rattle.coordinator.proofs.Keeping
use Rattle.coordinator.proofs.laws.seals_may_be_kept.Goals as goal

pub returns : goal.returns
returns c = Keeping.seals_may_be_kept c.seals_follow_on.ensures.epochs c.seals_follow_on.ensures.add c.cuts_are_consistent.ensures.resumed c.forms_agree.ensures
