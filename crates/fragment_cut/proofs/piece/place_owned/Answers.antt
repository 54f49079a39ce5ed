use Rattle.graph_core.specs.declared.fragment.Reading.{Reading}
use Rattle.fragment_cut.specs.Filing.{placed_reading, is_owned_in}
use Rattle.fragment_cut.proofs.Marked.{kept_more}
use Rattle.fragment_cut.proofs.piece.place_owned.Goals as goal

pub loop-reading-preserved : goal.loop-reading-preserved
loop-reading-preserved c =
    let d : Reading = record { place = 0; weight = 0 } in
    kept_more (placed_reading c.args.places.now) c.args.made.now.items c.args.row.now c.loop-reading.reading-index d c.loop-reading-test.true (is_owned_in c.args.places.now c.args.owned) c.loop-reading.made.items c.push_if.new.made.items
    c.in_ok-push_if.ensures c.loop-reading.invariant
