-- Walks, and simulations.
use Rattle.std.specs.Prelude.{◌≡◌, ℕ, ◌+◌, ◌<◌, ◌≤◌, ◌⊎◌, Bool, List, [], ◌∷◌, Contains, IsTrue, sum_by}
use Rattle.graph_core.specs.declared.edge.Edge.{Edge}
use Rattle.graph_core.specs.declared.TheConstants.{FAR}
use Rattle.graph_core.specs.Digraph.{Digraph}
use Rattle.graph_core.specs.PatternGraph.{PatternGraph}
use Rattle.graph_core.specs.Graphs.{count_of, number_at, label_at}

-- A walk from u to v: edges of the graph, each beginning where the one before ends. No edge joins a vertex to itself.
abbrev pub IsWalk : Digraph → ℕ → ℕ → List Edge → Type 0
IsWalk g u v [] = u ≡ v
IsWalk g u v (e ∷ walk) = Contains g.edges e × (e.from ≡ u) × IsWalk g e.to v walk

abbrev pub walk_weight : List Edge → ℕ
walk_weight walk = sum_by (λ e. e.weight) walk

-- a walk from u to v whose edges may be gone along backwards
abbrev pub IsPath : Digraph → ℕ → ℕ → List Edge → Type 0
IsPath g u v [] = u ≡ v
IsPath g u v (e ∷ walk) = Contains g.edges e × (((e.from ≡ u) × IsPath g e.to v walk) ⊎ ((e.to ≡ u) × IsPath g e.from v walk))

-- u and v are vertices that a walk joins which ignores directions
abbrev pub AreJoined : Digraph → ℕ → ℕ → Type 0
AreJoined g u v = (u < count_of g) × (v < count_of g) × (walk : List Edge) × IsPath g u v walk

-- a walk to v from a vertex whose number is one of the sources
abbrev pub IsWalkFrom : Digraph → List ℕ → ℕ → List Edge → Type 0
IsWalkFrom g sources v walk = (u : ℕ) × (u < count_of g) × Contains sources (number_at g u) × IsWalk g u v walk

abbrev pub HasEdge : Digraph → ℕ → ℕ → Type 0
HasEdge g v u = (e : Edge) × Contains g.edges e × (e.from ≡ v) × (e.to ≡ u)

-- A simulation relates numbers of pattern nodes to vertices of the same label. Where k and v are related, and a
-- link leads from k to m, an edge leads from v to some u to which m is related.
pub record IsSimulation (g : Digraph) (p : PatternGraph) (related : ℕ → ℕ → Bool) : Type 0 where
  pub labels : (k v : ℕ) → IsTrue (related k v) → (v < count_of g) × Contains p.nodes (record { number = k; label = label_at g v })
  pub links : (k m v : ℕ) → IsTrue (related k v) → Contains p.links (record { from = k; to = m }) → (u : ℕ) × HasEdge g v u × IsTrue (related m u)

-- some walk from a source to v has the weight n, or n is FAR
abbrev pub IsWeightOrFar : Digraph → List ℕ → ℕ → ℕ → Type 0
IsWeightOrFar g sources v n = ((walk : List Edge) × IsWalkFrom g sources v walk × (walk_weight walk ≡ n)) ⊎ (n ≡ FAR)

-- no edge lowers a value, and each source has 0
pub record IsRelaxed (g : Digraph) (sources : List ℕ) (x : ℕ → ℕ) : Type 0 where
  pub edges : (e : Edge) → Contains g.edges e → x e.to ≤ x e.from + e.weight
  pub sources_are_zero : (u : ℕ) → u < count_of g → Contains sources (number_at g u) → x u ≡ 0
