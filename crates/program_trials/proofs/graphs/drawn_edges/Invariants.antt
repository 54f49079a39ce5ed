use Rattle.std.proofs.Common.{◌≡◌, ◌<◌, ◌≤◌, length}
use Rattle.std.specs.List.{All}
use Rattle.program_trials.proofs.graphs.drawn_edges.Given as goal

-- the edges so far
abbrev pub invariant-edges : goal.invariant-edges
invariant-edges l = record {
  between : All (λ e. (e.from < l.vertices) × (e.to < l.vertices) × (l.weights.start ≤ e.weight) × (e.weight < l.weights.end)) l.edges.items;
  count : length l.edges.items ≡ l.counter;
}
