-- Generated edges and vertices, one more each time, and that they make a graph.
use Rattle.std.proofs.Common.{◌≡◌, ℕ, zero, suc, ◌+◌, ◌*◌, ◌%◌, ◌<◌, ◌≤◌, ◌^◌, [], ◌∷◌, ◌++◌, map, length, get_or, Option, Some, IsSome, refl, ◌∙◌, ap, sym, subst, arith}
use Rattle.std.specs.List.{range_with_len}
use Rattle.std.proofs.lemmas.List.FromFn.{map-range_with_len_more, length-map-range_with_len, get_or-map-range_with_len}
use Rattle.std.proofs.lemmas.List.Elements.{All-map, All-from_get_or}
use Rattle.std.proofs.lemmas.Nat.{mod_below}
use Rattle.rand_xoshiro.specs.SplitMix64.{next_state, mix_u64}
use Rattle.graph_core.specs.declared.edge.Edge.{Edge}
use Rattle.graph_core.specs.Digraph.{index_in, IsRising, RisesAbove, MakeGraph, MAX_VERTICES}
use Rattle.graph_core.specs.Generated.{state_after, word_at, generated_edge, generated_vertices, generated_edges, edge_after, state_past_edge}
use Rattle.graph_core.proofs.VertexNumbers.{index_at}

state_step : (number k m : ℕ) → m ≡ k + 1 → state_after number m ≡ next_state (state_after number k)
state_step number k m h = let e : m ≡ suc k = omega (arith, h) in ap (state_after number) e

-- the edge that comes after the words of the edges before
pub next_is : (vertices number k state : ℕ) → state ≡ state_after number (3 * k) → edge_after vertices state ≡ generated_edge vertices number k
next_is vertices number k state h =
    let one : state_after number (3 * k + 1) ≡ next_state (state_after number (3 * k)) = state_step number (3 * k) (3 * k + 1) refl in
    let two : state_after number (3 * k + 2) ≡ next_state (state_after number (3 * k + 1)) = state_step number (3 * k + 1) (3 * k + 2) (omega arith) in
    ap (edge_after vertices) h
    ∙ ap (λ (s : ℕ). record { from = word_at number (3 * k) % vertices; to = (mix_u64 s).0 % vertices; weight = 1 + (mix_u64 (next_state s)).0 % 1000 }) (sym one)
    ∙ ap (λ (s : ℕ). record { from = word_at number (3 * k) % vertices; to = word_at number (3 * k + 1) % vertices; weight = 1 + (mix_u64 s).0 % 1000 }) (sym two)

-- and the state past it
pub past_is : (number k state : ℕ) → state ≡ state_after number (3 * k) → state_past_edge state ≡ state_after number (3 * (k + 1))
past_is number k state h =
    let one = state_step number (3 * k) (3 * k + 1) refl in
    let two = state_step number (3 * k + 1) (3 * k + 2) (omega arith) in
    let three = state_step number (3 * k + 2) (3 * (k + 1)) (omega arith) in
    ap state_past_edge h ∙ ap (λ (s : ℕ). next_state (next_state s)) (sym one) ∙ ap next_state (sym two) ∙ sym three

pub edges_more : (vertices number k : ℕ) → map (generated_edge vertices number) (range_with_len 0 k) ++ generated_edge vertices number k ∷ [] ≡ map (generated_edge vertices number) (range_with_len 0 (k + 1))
edges_more vertices number k = sym (map-range_with_len_more (generated_edge vertices number) 0 k k (omega arith))

pub vertices_more : (k : ℕ) → generated_vertices k ++ (k, 0) ∷ [] ≡ generated_vertices (k + 1)
vertices_more k = sym (map-range_with_len_more (λ (v : ℕ). (v, 0)) 0 k k (omega arith))

rises : (low a n : ℕ) → low < a → RisesAbove low (map (λ (v : ℕ). (v, 0)) (range_with_len a n))
rises low a zero h = tt
rises low a (suc n) h = (h, rises a (a + 1) n (omega arith))

all_rise : (n : ℕ) → IsRising (generated_vertices n)
all_rise zero = tt
all_rise (suc n) = rises 0 1 n (omega arith)

vertex_there : (n i : ℕ) (d : ℕ × ℕ) → i < n → get_or (generated_vertices n) i d ≡ (i, 0)
vertex_there n i d h = get_or-map-range_with_len (λ (v : ℕ). (v, 0)) 0 n i i d h (omega arith)

vertices_long : (n : ℕ) → length (generated_vertices n) ≡ n
vertices_long n = length-map-range_with_len (λ (v : ℕ). (v, 0)) 0 n

index_there : (n i : ℕ) → i < n → index_in (generated_vertices n) i ≡ Some i
index_there n i h =
    index_at (generated_vertices n) i i (0, 0) (all_rise n) (let e = vertices_long n in omega (arith, h, e)) (ap (λ (v : ℕ × ℕ). v.0) (vertex_there n i (0, 0) h))

-- each end is a vertex
some_index : (n i : ℕ) → i < n → IsSome (index_in (generated_vertices n) i)
some_index n i h = subst (λ (o : Option ℕ). IsSome o) (sym (index_there n i h)) refl

module _ (vertices number : ℕ) (some : 1 ≤ vertices) (few : vertices ≤ MAX_VERTICES) where
  end_below : (k : ℕ) → word_at number k % vertices < vertices
  end_below k = mod_below (word_at number k) vertices (omega (arith, some))

  weight_below : (k : ℕ) → 1 + word_at number k % 1000 < 2 ^ 32
  weight_below k = let h = mod_below (word_at number k) 1000 (omega arith) in omega (arith, h)

  numbers_fit : (i : ℕ) (d : ℕ × ℕ) → i < length (generated_vertices vertices) → ((get_or (generated_vertices vertices) i d).0 < 2 ^ 32) × ((get_or (generated_vertices vertices) i d).1 < 2 ^ 32)
  numbers_fit i d h =
      let l : i < vertices = let e = vertices_long vertices in omega (arith, h, e) in
      let small : i < 2 ^ 32 = omega (arith, l, few) in
      subst (λ (v : ℕ × ℕ). (v.0 < 2 ^ 32) × (v.1 < 2 ^ 32)) (sym (vertex_there vertices i d l)) (small, omega arith)

  -- what is generated makes a graph
  pub generated_make : MakeGraph (generated_vertices vertices) (generated_edges vertices number)
  generated_make = record {
    rising = all_rise vertices;
    words = All-from_get_or (λ (v : ℕ × ℕ). (v.0 < 2 ^ 32) × (v.1 < 2 ^ 32)) (generated_vertices vertices) (0, 0) (λ i h. numbers_fit i (0, 0) h);
    ends = All-map (λ (e : Edge). IsSome (index_in (generated_vertices vertices) e.from) × IsSome (index_in (generated_vertices vertices) e.to)) (generated_edge vertices number) (range_with_len 0 (4 * vertices))
        (λ k d h. (some_index vertices _ (end_below _), some_index vertices _ (end_below _)));
    weights = All-map (λ (e : Edge). e.weight < 2 ^ 32) (generated_edge vertices number) (range_with_len 0 (4 * vertices)) (λ k d h. weight_below _);
    few_vertices = let e = vertices_long vertices in omega (arith, e, few);
    few_edges = let e = length-map-range_with_len (generated_edge vertices number) 0 (4 * vertices) in omega (arith, e, few);
  }
