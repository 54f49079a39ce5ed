use Rattle.std.proofs.Common.{◌<◌, ◌^◌}
use Rattle.std.specs.List.{All}
use Rattle.graph_core.specs.Graphs.{HaveDistinctNumbers}
use Rattle.pie_sim.proofs.patterns.all_nodes.Given as goal

-- the nodes so far
abbrev pub invariant-nodes : goal.invariant-nodes
invariant-nodes l = record {
  fit : All (λ node. (node.number < 64) × (node.label < 2 ^ 32)) l.nodes.items;
  distinct : HaveDistinctNumbers l.nodes.items;
  below : All (λ node. node.number < l.number) l.nodes.items;
}
