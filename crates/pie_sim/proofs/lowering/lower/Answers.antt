use Rattle.std.proofs.Common.{◌≡◌, ◌<◌, true, sym, ◌∙◌, ap, subst, arith, length, slice_index}
use Rattle.pie_core.specs.PlaceSets.{waits}
use Rattle.pie_core.specs.Locals.{LocalValues}
use Rattle.pie_sim.proofs.Steps.{lowered-same, lowered-other, listed-readers}
use Rattle.pie_sim.proofs.lowering.lower.Goals as goal

pub returns-then-value-values-clause-lowered : goal.returns-then-value-values-clause-lowered
returns-then-value-values-clause-lowered c =
    let part = c.args.part.now in
    let old = c.args.local.now in
    let new = c.list_readers.new.local in
    let place = c.args.place in
    let value = c.args.value in
    let inside : place < length old.values = omega (arith, c.requires.place, c.requires.fits.places) in
    let rest = c.list_readers.ensures.rest ∙ ap (λ (l : LocalValues). let x : LocalValues = record l { waiting = new.waiting } in x) c.set.ensures in
    let other : value ≡ slice_index old.values place → ⊥ = λ e. c.if-value-values.true (e ∙ sym (ap (λ xs. slice_index xs place) c.values.ensures.values)) in
    let set = ap (λ (l : LocalValues). l.waiting) c.set.ensures in
    lowered-other part old new place value inside other c.requires.below (ap (λ (l : LocalValues). l.values) rest) (ap (λ (l : LocalValues). l.before) rest) (ap (λ (l : LocalValues). length l.counters) rest)
    (omega (arith, c.list_readers.ensures.known, ap (λ (l : LocalValues). length l.waiting) c.set.ensures, c.values.ensures.local.known))
    (λ q w. c.list_readers.ensures.on q (subst (λ ws. waits ws q ≡ true) (sym set) w))
    (listed-readers part old new place value (ap (λ (l : LocalValues). l.values) rest) c.requires.listed c.list_readers.ensures.readers)

pub returns-else-value-values-clause-lowered : goal.returns-else-value-values-clause-lowered
returns-else-value-values-clause-lowered c =
    lowered-same c.args.part.now c.args.local.now c.args.place c.args.value (c.if-value-values.false ∙ ap (λ xs. slice_index xs c.args.place) c.values.ensures.values)
