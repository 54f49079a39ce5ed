use Rattle.std.proofs.Common.{length, ◌-◌, ◌≡◌, ◌<◌, ◌≤◌, ℕ, slice_index_or}
use Rattle.graph_core.specs.declared.edge.Edge.{Edge}
use Rattle.fragment_cut.proofs.edge_rows.end_of.Given as goal

abbrev pub invariant-loop-end : goal.invariant-loop-end
invariant-loop-end l = (l.start ≤ l.end) × (l.end ≤ length l.edges) × ((k : ℕ) (d : Edge) → l.start ≤ k → k < l.end → (slice_index_or l.edges k d).from ≡ l.vertex)

abbrev pub decreases-loop-end : goal.decreases-loop-end
decreases-loop-end l = length l.edges - l.end
