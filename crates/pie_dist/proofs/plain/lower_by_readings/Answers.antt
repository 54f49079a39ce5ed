use Rattle.std.proofs.Common.{◌≡◌, ap, arith, length}
use Rattle.pie_lowering.specs.LeastEquations.{whole_weight}
use Rattle.pie_lowering.proofs.Steps.{fallen-fits, fallen-far}
use Rattle.pie_dist.proofs.Readings.{pass-first, pass-more, pass-all}
use Rattle.pie_dist.proofs.plain.lower_by_readings.Goals as goal

pub places-init : goal.places-init
places-init c = pass-first c.args.part.now c.args.local.now

pub lower_place-fell-requires-clause-fits : goal.lower_place-fell-requires-clause-fits
lower_place-fell-requires-clause-fits c = fallen-fits whole_weight c.args.part.now c.args.local.now c.places.local c.places.invariant.fallen c.requires.fits

pub lower_place-fell-requires-clause-at_most_far : goal.lower_place-fell-requires-clause-at_most_far
lower_place-fell-requires-clause-at_most_far c = fallen-far whole_weight c.args.part.now c.args.local.now c.places.local c.places.invariant.fallen c.requires.at_most_far

pub places-preserved : goal.places-preserved
places-preserved c = pass-more c.args.part.now c.args.local.now c.places.local c.lower_place-fell.new.local c.places.fell c.lower_place-fell.result c.places.place c.places.invariant c.lower_place-fell.ensures

pub returns : goal.returns
returns c =
    let owned = ap length c.owned.ensures.owned in
    let all : c.places.place ≡ length c.args.part.now.owned = omega (arith, c.places-test.false, c.places.auto.place-end, owned) in
    pass-all c.args.part.now c.args.local.now c.places.local c.places.fell c.places.place c.requires.rows_match all c.places.invariant
