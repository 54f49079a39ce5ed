use Rattle.std.proofs.Common.{◌≡◌, take, []}
use Rattle.graph_core.specs.Queries.{mask_of, has_node}
use Rattle.graph_core.proofs.job.nodes_with_label.Given as goal

abbrev pub invariant-loop-node : goal.invariant-loop-node
invariant-loop-node l = l.mask ≡ mask_of (λ k. has_node (record { nodes = take l.node-index l.node-items; links = [] }) k l.label)
