use Rattle.graph_core.specs.Graphs.{count_of}
use Rattle.fragment_cut.specs.Halves.{half_of}
use Rattle.fragment_cut.proofs.Joining.{push_more, still_long}
use Rattle.fragment_cut.proofs.cutting.several_halves.Goals as goal

pub loop-fragment-preserved : goal.loop-fragment-preserved
loop-fragment-preserved c =
    let job = c.args.job.now in
    record {
      made = push_more (half_of job) c.loop-fragment.fragment c.loop-fragment.halves.items c.push.new.self.items c.in_ok-half.half c.in_ok-push.ensures.items c.loop-fragment.invariant.made c.in_ok-half.ensures;
      places = still_long c.build.new.places c.loop-fragment.places.items c.loop-fragment.places.len (count_of job.graph) c.loop-fragment.places.ok.0 c.loop-fragment.invariant.places;
    }
