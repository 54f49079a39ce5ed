use Rattle.base_machine.proofs.Quiet.{confluence_from}
use Rattle.base_machine.proofs.Kept.{fit_is_kept}
use Rattle.base_machine.proofs.laws.confluence.Goals as goal

pub returns-clause-kept : goal.returns-clause-kept
returns-clause-kept c = fit_is_kept

pub returns-clause-answer : goal.returns-clause-answer
returns-clause-answer c = confluence_from fit_is_kept
