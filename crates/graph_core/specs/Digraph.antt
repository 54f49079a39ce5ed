-- What a graph is, without the form in which it is kept, and words on graphs.
use Rattle.std.specs.Prelude.{◌≡◌, ℕ, ◌+◌, ◌^◌, ◌<◌, ◌≤◌, Bool, ◌&&◌, ◌||◌, ◌==◌, nat_lt, nat_le, if◌then◌else◌, List, [], ◌∷◌, map, length, Option, Some, None, IsSome, option_map, slice_index_or, unwrap_or, All, ⊤}
use Rattle.graph_core.specs.declared.edge.Edge.{Edge}

-- A directed graph. A vertex has a number and a label, and the vertices stand in rising number: the index of a
-- vertex is its place in that list, from 0. An edge names its ends by index. Edges stand in rising order of
-- from, to and weight, each as often as it was given.
pub record Digraph : Type 0 where
  pub vertices : List (ℕ × ℕ)
  pub edges : List Edge

-- how many vertices a graph has
abbrev pub count_of : Digraph → ℕ
count_of g = length g.vertices

-- the number and the label of the vertex with an index
abbrev pub number_at : Digraph → ℕ → ℕ
number_at g v = (slice_index_or g.vertices v (0, 0)).0

abbrev pub label_at : Digraph → ℕ → ℕ
label_at g v = (slice_index_or g.vertices v (0, 0)).1

-- the index of the vertex with a number, if there is one
abbrev pub index_in : List (ℕ × ℕ) → ℕ → Option ℕ
index_in [] number = None
index_in (vertex ∷ vertices) number = if vertex.0 == number then Some 0 else option_map (λ i. i + 1) (index_in vertices number)

abbrev pub index_of : Digraph → ℕ → Option ℕ
index_of g number = index_in g.vertices number

-- whether a stands before b, or at the same place, in the order of from, to and weight
abbrev pub edge_le : Edge → Edge → Bool
edge_le a b = nat_lt a.from b.from || (a.from == b.from && (nat_lt a.to b.to || (a.to == b.to && nat_le a.weight b.weight)))

abbrev pub insert_edge : Edge → List Edge → List Edge
insert_edge a [] = a ∷ []
insert_edge a (b ∷ edges) = if edge_le a b then a ∷ b ∷ edges else b ∷ insert_edge a edges

-- the edges in rising order of from, to and weight, each as often as before
abbrev pub sorted_edges : List Edge → List Edge
sorted_edges [] = []
sorted_edges (a ∷ edges) = insert_edge a (sorted_edges edges)

-- an edge between vertex numbers, as an edge between indexes
abbrev pub by_index : List (ℕ × ℕ) → Edge → Edge
by_index vertices e = record { from = unwrap_or (index_in vertices e.from) 0; to = unwrap_or (index_in vertices e.to) 0; weight = e.weight }

-- the graph of these vertices, and of these edges between their numbers
abbrev pub graph_of : List (ℕ × ℕ) → List Edge → Digraph
graph_of vertices edges = record { vertices = vertices; edges = sorted_edges (map (by_index vertices) edges) }

abbrev pub MAX_VERTICES : ℕ
MAX_VERTICES = 1000000

abbrev pub MAX_EDGES : ℕ
MAX_EDGES = 4000000

-- each vertex has a larger number than the one before it
abbrev pub RisesAbove : ℕ → List (ℕ × ℕ) → Type 0
RisesAbove low [] = ⊤
RisesAbove low (vertex ∷ vertices) = (low < vertex.0) × RisesAbove vertex.0 vertices

abbrev pub IsRising : List (ℕ × ℕ) → Type 0
IsRising [] = ⊤
IsRising (vertex ∷ vertices) = RisesAbove vertex.0 vertices

-- vertices and edges, by number, that make a graph
pub record MakeGraph (vertices : List (ℕ × ℕ)) (edges : List Edge) : Type 0 where
  pub rising : IsRising vertices
  pub words : All (λ vertex. (vertex.0 < 2 ^ 32) × (vertex.1 < 2 ^ 32)) vertices
  pub ends : All (λ e. IsSome (index_in vertices e.from) × IsSome (index_in vertices e.to)) edges
  pub weights : All (λ e. e.weight < 2 ^ 32) edges
  pub few_vertices : length vertices ≤ MAX_VERTICES
  pub few_edges : length edges ≤ MAX_EDGES

-- what holds of each graph that the engine keeps
pub record IsGraph (g : Digraph) : Type 0 where
  pub rising : IsRising g.vertices
  pub words : All (λ vertex. (vertex.0 < 2 ^ 32) × (vertex.1 < 2 ^ 32)) g.vertices
  pub ends : All (λ e. (e.from < count_of g) × (e.to < count_of g)) g.edges
  pub weights : All (λ e. e.weight < 2 ^ 32) g.edges
  pub sorted : sorted_edges g.edges ≡ g.edges
  pub few_vertices : count_of g ≤ MAX_VERTICES
  pub few_edges : length g.edges ≤ MAX_EDGES
