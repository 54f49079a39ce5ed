use Rattle.legal_journal.proofs.Probes
use Rattle.legal_journal.proofs.laws.end_is_quiet.Goals as goal

pub returns : goal.returns
returns c = Probes.end_is_quiet
