use Rattle.stop_probe.proofs.Following.{follows_events, meets_the_table}
use Rattle.stop_probe.proofs.laws.probe_follows_the_journal.Goals as goal

pub returns-clause-events : goal.returns-clause-events
returns-clause-events c = follows_events

pub returns-clause-rows : goal.returns-clause-rows
returns-clause-rows c = meets_the_table
