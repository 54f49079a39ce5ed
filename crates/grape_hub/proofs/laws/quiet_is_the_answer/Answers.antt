use Rattle.grape_hub.proofs.Answering
use Rattle.grape_hub.proofs.laws.quiet_is_the_answer.Goals as goal

pub returns : goal.returns
returns c = Answering.quiet_is_the_answer
