use Rattle.stop_probe.proofs.Values.{acked}
use Rattle.stop_probe.proofs.probe.Probe.ack.Goals as goal

pub returns : goal.returns
returns c = acked c.args.worker c.self.inside.workers _ _ _ _ _ _ c.self.view_is c.requires.admitted
