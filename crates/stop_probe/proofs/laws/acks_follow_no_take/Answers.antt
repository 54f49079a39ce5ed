use Rattle.stop_probe.proofs.Following.{takes_are_seen, acks_follow_no_take}
use Rattle.stop_probe.proofs.laws.acks_follow_no_take.Goals as goal

pub returns-clause-seen : goal.returns-clause-seen
returns-clause-seen c = takes_are_seen

pub returns-clause-none : goal.returns-clause-none
returns-clause-none c = acks_follow_no_take
