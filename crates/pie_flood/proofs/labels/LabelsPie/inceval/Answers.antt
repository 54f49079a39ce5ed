use Rattle.pie_flood.proofs.LeastFlood.{label-least}
use Rattle.pie_flood.proofs.labels.LabelsPie.inceval.Goals as goal

pub evaluate_again-requires : goal.evaluate_again-requires
evaluate_again-requires c = let r = c.requires in (r.0, label-least r.0 r.1, r.2)

pub returns-clause-solution : goal.returns-clause-solution
returns-clause-solution c = λ job is_for. c.evaluate_again.ensures.solution job (label-least job is_for)
