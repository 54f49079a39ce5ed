use Rattle.stop_probe.proofs.Values.{asked}
use Rattle.stop_probe.proofs.probe.Probe.ask.Goals as goal

pub returns : goal.returns
returns c = asked c.self.inside.workers 64 _ _ _ _ _ _ c.self.view_is c.self.invariant
