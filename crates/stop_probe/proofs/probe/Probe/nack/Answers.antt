use Rattle.stop_probe.proofs.Values.{nacked}
use Rattle.stop_probe.proofs.probe.Probe.nack.Goals as goal

pub returns : goal.returns
returns c = nacked c.args.worker c.self.inside.workers _ _ _ _ _ _ c.self.view_is c.requires
