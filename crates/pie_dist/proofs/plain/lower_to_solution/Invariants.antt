use Rattle.std.proofs.Common.{sum}
use Rattle.pie_lowering.specs.LeastEquations.{whole_weight}
use Rattle.pie_lowering.specs.Lowering.{HasFallen}
use Rattle.pie_dist.proofs.plain.lower_to_solution.Given as goal

abbrev pub invariant-passes : goal.invariant-passes
invariant-passes l = HasFallen whole_weight l.part l.initial.local l.local

abbrev pub decreases-passes : goal.decreases-passes
decreases-passes l = sum l.local.values
