use Rattle.fragment_cut.proofs.RouteTables.{mirrors_more}
use Rattle.fragment_cut.proofs.routing.read_mirrors.Goals as goal

pub loop-mirror-preserved : goal.loop-mirror-preserved
loop-mirror-preserved c = mirrors_more c.args.mirrors.now c.loop-mirror.row.items c.push.new.self.items c.loop-mirror.mirror c.in_ok-push.ensures.items c.loop-mirror.invariant
