use Rattle.std.proofs.Common.{◌<◌, subst, ap, arith, slice_index}
use Rattle.pie_core.specs.Locals.{LocalValues}
use Rattle.pie_core.specs.LocalCalls.{with_value}
use Rattle.pie_lowering.specs.Lowering.{HasFallen, WaitWhereFell}
use Rattle.pie_lowering.proofs.Mirrors.{mirror-settled}
use Rattle.pie_lowering.proofs.lowering.lower_mirror.Goals as goal

pub returns-then-value-values-clause-settled : goal.returns-then-value-values-clause-settled
returns-then-value-values-clause-settled g c =
    let part = c.args.part.now in
    let old = c.args.local.now in
    let new = c.lower_readers.new.local in
    let m = c.args.place in
    let value = c.args.value in
    let less : value < slice_index old.values m = omega (arith, c.if-value-values.true, ap (λ xs. slice_index xs m) c.values.ensures.values) in
    let fell : HasFallen g.C.Cost.cost_of part (with_value old m value) new = subst (λ (l : LocalValues). HasFallen g.C.Cost.cost_of part l new) c.set.ensures c.lower_readers.ensures.fallen in
    let waits : WaitWhereFell (with_value old m value) new = subst (λ (l : LocalValues). WaitWhereFell l new) c.set.ensures c.lower_readers.ensures.waits in
    mirror-settled g.C.Cost.cost_of part old new m value less fell waits c.lower_readers.ensures.holds
