use Rattle.graph_core.specs.Fragments.{owner}
use Rattle.fragment_cut.proofs.Joining.{push_more, owner_is}
use Rattle.fragment_cut.proofs.cutting.owners.Goals as goal

pub loop-vertex-preserved : goal.loop-vertex-preserved
loop-vertex-preserved c =
    let job = c.args.job.now in
    push_more (owner job) c.loop-vertex.vertex c.loop-vertex.owners.items c.push.new.self.items c.owner_of.result c.in_ok-push.ensures.items c.loop-vertex.invariant
    (owner_is job c.loop-vertex.vertex c.count-count.result c.id-id.result c.owner_of.result c.owner_of.ensures.owner c.count-count.ensures.count c.id-id.ensures)
