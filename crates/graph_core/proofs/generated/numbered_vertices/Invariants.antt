use Rattle.std.proofs.Common.{◌≡◌}
use Rattle.graph_core.specs.Generated.{generated_vertices}
use Rattle.graph_core.proofs.generated.numbered_vertices.Given as goal

abbrev pub invariant-loop-number : goal.invariant-loop-number
invariant-loop-number l = l.vertices.items ≡ generated_vertices l.number
