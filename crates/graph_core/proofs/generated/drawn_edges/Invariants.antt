use Rattle.std.proofs.Common.{◌≡◌, ◌*◌, map}
use Rattle.std.specs.List.{range_with_len}
use Rattle.graph_core.specs.Generated.{state_after, generated_edge}
use Rattle.graph_core.proofs.generated.drawn_edges.Given as goal

-- the edges so far stand, and the generator is past their words
abbrev pub invariant-loop-edge : goal.invariant-loop-edge
invariant-loop-edge l = (l.edges.items ≡ map (generated_edge l.vertices l.number) (range_with_len 0 l._edge)) × (l.words ≡ state_after l.number (3 * l._edge))
