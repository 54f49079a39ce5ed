use Rattle.pie_lowering.specs.LeastEquations.{whole_weight}
use Rattle.pie_lowering.proofs.Steps.{fallen-refl, fallen-trans, fallen-fits, fallen-far}
use Rattle.pie_dist.proofs.plain.lower_to_solution.Goals as goal

pub passes-init : goal.passes-init
passes-init c = fallen-refl whole_weight c.args.part.now c.args.local.now

pub lower_by_readings-requires-clause-fits : goal.lower_by_readings-requires-clause-fits
lower_by_readings-requires-clause-fits c = fallen-fits whole_weight c.args.part.now c.args.local.now c.passes.local c.passes.invariant c.requires.fits

pub lower_by_readings-requires-clause-at_most_far : goal.lower_by_readings-requires-clause-at_most_far
lower_by_readings-requires-clause-at_most_far c = fallen-far whole_weight c.args.part.now c.args.local.now c.passes.local c.passes.invariant c.requires.at_most_far

pub passes-preserved : goal.passes-preserved
passes-preserved c = fallen-trans whole_weight c.args.part.now c.args.local.now c.passes.local c.lower_by_readings.new.local c.passes.invariant c.lower_by_readings.ensures.fallen

pub returns-clause-fallen : goal.returns-clause-fallen
returns-clause-fallen c = fallen-trans whole_weight c.args.part.now c.args.local.now c.passes.local c.lower_by_readings.new.local c.passes.invariant c.lower_by_readings.ensures.fallen
