use Rattle.pie_dist.proofs.LeastDist.{dist-least}
use Rattle.pie_dist.proofs.dist.DistPie.inceval.Goals as goal

pub evaluate_again-requires : goal.evaluate_again-requires
evaluate_again-requires c = let r = c.requires in (r.0, dist-least r.0 r.1, r.2)

pub returns-clause-solution : goal.returns-clause-solution
returns-clause-solution c = λ job is_for. c.evaluate_again.ensures.solution job (dist-least job is_for)
