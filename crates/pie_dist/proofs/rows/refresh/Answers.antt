use Rattle.std.proofs.Common.{◌≡◌, refl}
use Rattle.pie_dist.specs.NearHeaps.{HasLeaf, IsRefreshed}
use Rattle.pie_dist.proofs.Trees.{written, is_whole}
use Rattle.pie_dist.proofs.rows.refresh.Goals as goal

pub nodes-init : goal.nodes-init
nodes-init c = record { leaf = c.requires.heap; kept = λ j h. refl }

pub nodes-preserved : goal.nodes-preserved
nodes-preserved c =
    let w = written c.args.room c.nodes.index c.nodes.rows c.args.rows.now c.nearer-name.result c.nodes-test.true c.nodes.invariant.leaf c.nodes.invariant.kept c.nearer-name.ensures in
    record { leaf = w.0; kept = w.1 }

pub returns : goal.returns
returns c = record { heap = is_whole _ _ _ c.nodes-test.false c.nodes.invariant.leaf; kept = c.nodes.invariant.kept }
