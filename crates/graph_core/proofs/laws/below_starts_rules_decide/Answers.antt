use Rattle.graph_core.proofs.Rules.{rules_decide}
use Rattle.graph_core.proofs.laws.below_starts_rules_decide.Goals as goal

pub returns : goal.returns
returns c = rules_decide
