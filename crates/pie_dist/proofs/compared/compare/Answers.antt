use Rattle.std.proofs.Common.{ap, arith, length}
use Rattle.pie_core.proofs.Starting.{few-places}
use Rattle.pie_dist.proofs.compared.compare.Goals as goal

pub overflow_cast-mirrors : goal.overflow_cast-mirrors
overflow_cast-mirrors g c = omega (arith, few-places c.args.job.now c.requires.job.0 c.args.part.now c.requires.part, ap length c.mirrors.ensures.mirrors)
