use Rattle.std.proofs.Common.{◌||◌, sym, ◌∙◌, ap, slice_index, slice_index_or, List}
use Rattle.std.proofs.lemmas.List.{take_all}
use Rattle.std.proofs.lemmas.List.Folds.{list_any_more}
use Rattle.graph_core.specs.declared.fragment.Reading.{Reading}
use Rattle.graph_core.specs.Queries.{has_bit}
use Rattle.pie_sim.specs.Falling.{is_read}
use Rattle.pie_sim.proofs.Bits.{zero-none, has_bit-or}
use Rattle.pie_sim.proofs.lowering.read_bits.Goals as goal

pub row-init : goal.row-init
row-init c = zero-none

pub row-preserved : goal.row-preserved
row-preserved c = λ m.
    let values = c.args.values.now in
    let row = c.readings-reading-items.result.now in
    let k = c.row.reading-index in
    let first : Reading = record { place = 0; weight = 0 } in
    let r : Reading = slice_index_or row k first in
    let value = slice_index values r.place in
    has_bit-or c.row.bits value m ∙ (ap (λ b. b || has_bit value m) (c.row.invariant m) ∙ sym (list_any_more (λ (r : Reading). has_bit (slice_index values r.place) m) row k first c.row-test.true))

pub returns : goal.returns
returns c = λ m.
    let row = c.readings-reading-items.result.now in
    c.row.invariant m ∙ ap (λ (rs : List Reading). is_read rs c.args.values.now m) (take_all c.row.reading-index row c.row-test.false ∙ c.readings-reading-items.ensures.readings)
