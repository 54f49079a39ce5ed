-- The graph that is drawn from a number, with the words of SplitMix64 (Steele, Lea and Flood).
use Rattle.std.specs.Prelude.{ℕ, zero, suc, ◌+◌, ◌*◌, ◌%◌, List, map}
use Rattle.std.specs.List.{range_with_len}
use Rattle.rand_xoshiro.specs.SplitMix64.{next_state, mix_u64}
use Rattle.graph_core.specs.declared.edge.Edge.{Edge}
use Rattle.graph_core.specs.Digraph.{Digraph, graph_of}

-- the generator's state after some words, where it is seeded with a number
abbrev pub state_after : ℕ → ℕ → ℕ
state_after number zero = number
state_after number (suc k) = next_state (state_after number k)

-- its words, from word 0 on
abbrev pub word_at : ℕ → ℕ → ℕ
word_at number k = (mix_u64 (state_after number k)).0

-- edge k takes three words: one for its beginning, one for its end, and one for a weight from 1 to 1000
abbrev pub generated_edge : ℕ → ℕ → ℕ → Edge
generated_edge vertices number k = record {
  from = word_at number (3 * k) % vertices;
  to = word_at number (3 * k + 1) % vertices;
  weight = 1 + word_at number (3 * k + 2) % 1000;
}

abbrev pub generated_vertices : ℕ → List (ℕ × ℕ)
generated_vertices vertices = map (λ v. (v, 0)) (range_with_len 0 vertices)

-- four edges for each vertex
abbrev pub generated_edges : ℕ → ℕ → List Edge
generated_edges vertices number = map (generated_edge vertices number) (range_with_len 0 (4 * vertices))

abbrev pub generated_graph : ℕ → ℕ → Digraph
generated_graph vertices number = graph_of (generated_vertices vertices) (generated_edges vertices number)

-- the edge of the three words that come after a state, and the state past them
abbrev pub edge_after : ℕ → ℕ → Edge
edge_after vertices state = record {
  from = (mix_u64 state).0 % vertices;
  to = (mix_u64 (next_state state)).0 % vertices;
  weight = 1 + (mix_u64 (next_state (next_state state))).0 % 1000;
}

abbrev pub state_past_edge : ℕ → ℕ
state_past_edge state = next_state (next_state (next_state state))
