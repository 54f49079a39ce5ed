use Rattle.legal_journal.proofs.Choosing
use Rattle.legal_journal.proofs.laws.runs_go_on.Goals as goal

pub returns-clause-alone : goal.returns-clause-alone
returns-clause-alone c = Choosing.one_lane_goes_on

pub returns-clause-all : goal.returns-clause-all
returns-clause-all c = Choosing.runs_go_on
