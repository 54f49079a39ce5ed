use Rattle.pie_flood.proofs.LeastFlood.{label-least}
use Rattle.pie_flood.proofs.labels.LabelsPie.peval.Goals as goal

pub evaluate-requires : goal.evaluate-requires
evaluate-requires c = let r = c.requires in (r.0, label-least r.0 r.1, r.2)

pub returns-clause-solution : goal.returns-clause-solution
returns-clause-solution c = λ job is_for. c.evaluate.ensures.solution job (label-least job is_for)
