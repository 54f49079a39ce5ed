use Rattle.std.proofs.Common.{◌≡◌, arith}
use Rattle.pie_dist.proofs.Trees.{cleared}
use Rattle.pie_dist.proofs.rows.rows_clear.Goals as goal

pub returns-clause-none : goal.returns-clause-none
returns-clause-none c = cleared c.args.room _ (λ j h. c.nodes.invariant j (omega arith))
