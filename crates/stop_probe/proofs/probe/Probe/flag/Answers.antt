use Rattle.stop_probe.proofs.Values.{flagged}
use Rattle.stop_probe.proofs.probe.Probe.flag.Goals as goal

pub returns : goal.returns
returns c = flagged c.args.worker c.self.inside.workers _ _ _ _ _ _ c.self.view_is c.requires
