use Rattle.std.proofs.Common.{◌≡◌, ◌<◌, true, sym, ◌∙◌, ap, subst, arith, length, slice_index, slice_index_or, []}
use Rattle.std.specs.Int.Bits.{bit_xor}
use Rattle.graph_core.specs.Queries.{has_bit}
use Rattle.pie_core.specs.Locals.{LocalValues}
use Rattle.pie_core.specs.LocalCalls.{with_value}
use Rattle.pie_sim.specs.Counting.{ColumnsFell, counter_at}
use Rattle.pie_sim.proofs.Steps.{lowered-same, lowered-other}
use Rattle.pie_sim.proofs.Fallen.{still-counted, counts-after, readers-after}
use Rattle.pie_sim.proofs.counted.lower_counted.Goals as goal

pub lower_columns-requires-clause-counted : goal.lower_columns-requires-clause-counted
lower_columns-requires-clause-counted c = λ p d owned l t.
    let nodes = c.args.nodes.now in
    let old = c.args.local.now in
    let place = c.args.place in
    let r = c.requires in
    let before = ap (λ xs. slice_index xs place) c.values.ensures.values in
    let counted = still-counted nodes c.args.part.now old place c.args.value r.counts r.turned (omega (arith, r.place, r.fits.places)) r.place r.below p d owned l (subst (λ n. has_bit (bit_xor n c.args.value) (slice_index nodes d) ≡ true) before t) in
    omega (arith, counted, ap (λ (x : LocalValues). counter_at (length nodes) x.counters p d) c.set.ensures)

-- the columns fell from the values with the place's new one
fell : (c : goal.After-lower_columns) → ColumnsFell c.args.nodes.now (slice_index_or c.args.part.now.readers c.args.place []) (bit_xor (slice_index c.args.local.now.values c.args.place) c.args.value) (length c.args.nodes.now) (with_value c.args.local.now c.args.place c.args.value) c.lower_columns.new.local
fell c =
    let nodes = c.args.nodes.now in
    let row = slice_index_or c.args.part.now.readers c.args.place [] in
    let new = c.lower_columns.new.local in
    let value = c.args.value in
    let before = ap (λ xs. slice_index xs c.args.place) c.values.ensures.values in
    subst (λ (l : LocalValues). ColumnsFell nodes row (bit_xor (slice_index c.args.local.now.values c.args.place) value) (length nodes) l new) c.set.ensures
    (subst (λ n. ColumnsFell nodes row (bit_xor n value) (length nodes) c.set.new.self new) before c.lower_columns.ensures)

pub returns-then-value-before-clause-lowered : goal.returns-then-value-before-clause-lowered
returns-then-value-before-clause-lowered c =
    let nodes = c.args.nodes.now in
    let part = c.args.part.now in
    let old = c.args.local.now in
    let new = c.lower_columns.new.local in
    let place = c.args.place in
    let value = c.args.value in
    let r = c.requires in
    let f = fell c in
    let inside : place < length old.values = omega (arith, r.place, r.fits.places) in
    let other : value ≡ slice_index old.values place → ⊥ = λ e. c.if-value-before.true (e ∙ sym (ap (λ xs. slice_index xs place) c.values.ensures.values)) in
    lowered-other part old new place value inside other r.below (ap (λ (l : LocalValues). l.values) f.only.rest) (ap (λ (l : LocalValues). l.before) f.only.rest) f.only.room (f.only.known ∙ c.values.ensures.local.known) f.only.on
    (readers-after nodes part old place value r.counts r.turned inside r.place r.below new f r.of_nodes)

pub returns-then-value-before-clause-counts : goal.returns-then-value-before-clause-counts
returns-then-value-before-clause-counts c =
    let r = c.requires in
    counts-after c.args.nodes.now c.args.part.now c.args.local.now c.args.place c.args.value r.counts r.turned (omega (arith, r.place, r.fits.places)) r.place r.below c.lower_columns.new.local (fell c)

pub returns-else-value-before-clause-lowered : goal.returns-else-value-before-clause-lowered
returns-else-value-before-clause-lowered c =
    lowered-same c.args.part.now c.args.local.now c.args.place c.args.value (c.if-value-before.false ∙ ap (λ xs. slice_index xs c.args.place) c.values.ensures.values)
