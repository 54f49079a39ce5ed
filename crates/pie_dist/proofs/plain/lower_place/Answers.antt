use Rattle.std.proofs.Common.{◌<◌, true, sym, ap, subst, arith, slice_index}
use Rattle.pie_core.specs.Locals.{LocalValues}
use Rattle.pie_dist.specs.ByReadings.{IsLeastAt, HasLoweredPlace}
use Rattle.pie_dist.proofs.Readings.{place-stays, place-falls}
use Rattle.pie_dist.proofs.plain.lower_place.Goals as goal

pub returns-then-least-values : goal.returns-then-least-values
returns-then-least-values c =
    let part = c.args.part.now in
    let old = c.args.local.now in
    let p = c.args.place in
    let least : IsLeastAt part old.values p c.least_at-least.result = subst (λ xs. IsLeastAt part xs p c.least_at-least.result) c.values.ensures.values c.least_at-least.ensures in
    let less : c.least_at-least.result < slice_index old.values p = omega (arith, c.if-least-values.true, ap (λ xs. slice_index xs p) c.values-2.ensures.values) in
    subst (λ (l : LocalValues). HasLoweredPlace part old l p true) (sym c.set.ensures) (place-falls part old p c.least_at-least.result c.requires.fits c.requires.rows_match c.requires.place least less)

pub returns-else-least-values : goal.returns-else-least-values
returns-else-least-values c =
    let part = c.args.part.now in
    let old = c.args.local.now in
    let p = c.args.place in
    let least : IsLeastAt part old.values p c.least_at-least.result = subst (λ xs. IsLeastAt part xs p c.least_at-least.result) c.values.ensures.values c.least_at-least.ensures in
    place-stays part old p c.least_at-least.result least (omega (arith, c.if-least-values.false, ap (λ xs. slice_index xs p) c.values-2.ensures.values))
