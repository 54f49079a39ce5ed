use Rattle.std.proofs.Common.{sym, ◌∙◌}
use Rattle.coordinator.proofs.Settled.{last_is}
use Rattle.coordinator.proofs.alone.last_event.Goals as goal

pub returns : goal.returns
returns c = last_is c.args.journal.now.events c.in-Some.event (sym c.in-Some.is ∙ c.last.ensures.event) c.requires
