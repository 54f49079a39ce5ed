use Rattle.stop_probe.proofs.Values.{taken}
use Rattle.stop_probe.proofs.probe.Probe.took.Goals as goal

pub returns : goal.returns
returns c = taken c.args.worker c.self.inside.workers _ _ _ _ _ _ c.self.view_is c.requires
