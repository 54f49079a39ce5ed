use Rattle.stop_probe.proofs.Values.{made}
use Rattle.stop_probe.proofs.probe.Probe.new.Goals as goal

pub returns : goal.returns
returns c = made c.args.workers 64 c.requires.few
