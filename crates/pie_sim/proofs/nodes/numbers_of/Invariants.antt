use Rattle.std.proofs.Common.{◌≡◌, take, map}
use Rattle.graph_core.specs.declared.pattern.PatternNode.{PatternNode}
use Rattle.pie_sim.proofs.nodes.numbers_of.Given as goal

-- the numbers so far
abbrev pub invariant-nodes : goal.invariant-nodes
invariant-nodes l = l.numbers.items ≡ map (λ (node : PatternNode). node.number) (take l.node-index l.nodes)
