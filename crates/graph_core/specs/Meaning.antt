-- What the answer of a query is, on the whole graph.
use Rattle.std.specs.Prelude.{◌≡◌, ℕ, ◌<◌, ◌≤◌, ◌⊎◌, ◌↔◌, Bool, List, [], ◌∷◌, IsTrue, IsBitSet}
use Rattle.graph_core.specs.declared.edge.Edge.{Edge}
use Rattle.graph_core.specs.declared.query.Query.{Query}
use Rattle.graph_core.specs.declared.query.Query.TheVariants as query
use Rattle.graph_core.specs.declared.job.Job.{Job}
use Rattle.graph_core.specs.declared.TheConstants.{FAR}
use Rattle.graph_core.specs.Digraph.{Digraph}
use Rattle.graph_core.specs.PatternGraph.{PatternGraph}
use Rattle.graph_core.specs.Graphs.{count_of, number_at}
use Rattle.graph_core.specs.Walks.{IsWalkFrom, walk_weight, AreJoined, IsSimulation}

-- some walk from a source to v has this weight, and none has less
pub record IsLeastWeight (g : Digraph) (sources : List ℕ) (v weight : ℕ) : Type 0 where
  pub walk : List Edge
  pub leads : IsWalkFrom g sources v walk
  pub weighs : walk_weight walk ≡ weight
  pub least : (other : List Edge) → IsWalkFrom g sources v other → weight ≤ walk_weight other

-- no walk leads from a source to v
abbrev pub IsUnreached : Digraph → List ℕ → ℕ → Type 0
IsUnreached g sources v = (walk : List Edge) → IsWalkFrom g sources v walk → ⊥

-- the distance of v from the nearest source, or FAR where there is no walk
abbrev pub IsDistance : Digraph → List ℕ → ℕ → ℕ → Type 0
IsDistance g sources v n = IsLeastWeight g sources v n ⊎ (IsUnreached g sources v × (n ≡ FAR))

-- n is the least number of a vertex that is joined to v
pub record IsLeastJoined (g : Digraph) (v n : ℕ) : Type 0 where
  pub least_vertex : ℕ
  pub joined : AreJoined g least_vertex v
  pub number : number_at g least_vertex ≡ n
  pub least : (u : ℕ) → AreJoined g u v → n ≤ number_at g u

-- 0 where a walk from a source leads to v, else 1
abbrev pub IsReached : Digraph → List ℕ → ℕ → ℕ → Type 0
IsReached g sources v n = (((walk : List Edge) × IsWalkFrom g sources v walk) × (n ≡ 0)) ⊎ (IsUnreached g sources v × (n ≡ 1))

-- the bits of n are the nodes that some simulation relates to v
abbrev pub AreSimulated : Digraph → PatternGraph → ℕ → ℕ → Type 0
AreSimulated g p v n = (k : ℕ) → IsBitSet n k ↔ ((related : ℕ → ℕ → Bool) × IsSimulation g p related × IsTrue (related k v))

-- the value of a query at a vertex
abbrev pub IsValueOf : Digraph → Query → ℕ → ℕ → Type 0
IsValueOf g (query.Dist source) v n = IsDistance g (source ∷ []) v n
IsValueOf g query.Label v n = IsLeastJoined g v n
IsValueOf g (query.Reach source) v n = IsReached g (source ∷ []) v n
IsValueOf g (query.Sim pattern) v n = AreSimulated g pattern v n

abbrev pub IsValue : Job → ℕ → ℕ → Type 0
IsValue job v n = IsValueOf job.graph job.query v n

-- each vertex has the value of the job's query
abbrev pub AreValues : Job → (ℕ → ℕ) → Type 0
AreValues job values = (v : ℕ) → v < count_of job.graph → IsValue job v (values v)
