use Rattle.std.proofs.Common.{ap, arith, List, slice_index_or, length, ◌+◌, ◌*◌, ◌<◌}
use Rattle.graph_core.specs.declared.fragment.Reading.{Reading}
use Rattle.pie_sim.specs.Counting.{times_placed}
use Rattle.pie_sim.proofs.Columns.{still-counted, column-more}
use Rattle.pie_sim.proofs.Counts.{in_room}
use Rattle.pie_sim.proofs.counted.lower_column.Goals as goal

pub lower_counter-requires-clause-counted : goal.lower_counter-requires-clause-counted
lower_counter-requires-clause-counted c =
    let row = c.readers-reader-items.result.now in
    let k = c.row.reader-index in
    let first : Reading = record { place = 0; weight = 0 } in
    let r : Reading = slice_index_or row k first in
    let owned = c.readers-reader-items.ensures.in_range k first c.row-test.true in
    let counted = c.requires.counted r.place owned in
    let same = ap (λ (rs : List Reading). times_placed rs r.place) c.readers-reader-items.ensures.readers in
    still-counted row k first c.row-test.true c.args.width c.args.column c.args.local.now c.row.local c.row.invariant c.requires.column (omega (arith, same, counted))

pub row-preserved : goal.row-preserved
row-preserved c =
    let row = c.readers-reader-items.result.now in
    let k = c.row.reader-index in
    let first : Reading = record { place = 0; weight = 0 } in
    let r : Reading = slice_index_or row k first in
    let owned = c.readers-reader-items.ensures.in_range k first c.row-test.true in
    let room = in_room (length c.args.part.now.owned) c.args.width r.place c.args.column owned c.requires.column in
    let inside : r.place * c.args.width + c.args.column < length c.row.local.counters = omega (arith, room, c.row.invariant.only.room, c.requires.room) in
    let counted = lower_counter-requires-clause-counted c.before in
    let step = c.lower_counter.ensures in
    column-more row k first c.row-test.true c.args.width c.args.column c.args.local.now c.row.local c.row.invariant c.requires.column c.lower_counter.new.local inside counted step.only step.counters step.zero
