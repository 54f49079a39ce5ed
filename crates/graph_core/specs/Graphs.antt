-- Words on jobs, and on patterns and settings within their limits.
use Rattle.std.specs.Prelude.{◌≢◌, ℕ, ◌^◌, ◌<◌, ◌≤◌, List, [], ◌∷◌, length, All, ⊤}
use Rattle.std.specs.List.{AllByRecursion}
use Rattle.graph_core.specs.declared.pattern.PatternNode.{PatternNode}
use Rattle.graph_core.specs.declared.query.Query.{Query}
use Rattle.graph_core.specs.declared.query.Query.TheVariants as query
use Rattle.graph_core.specs.declared.settings.Policy.{Policy}
use Rattle.graph_core.specs.declared.settings.Policy.TheVariants as policy
use Rattle.graph_core.specs.declared.settings.Settings.{Settings}
use Rattle.graph_core.specs.declared.job.Job.{Job}
use Rattle.graph_core.specs.PatternGraph.{PatternGraph}
pub use Rattle.graph_core.specs.Digraph.{count_of, number_at, label_at, index_in, index_of, edge_le, insert_edge, sorted_edges, by_index, graph_of, MAX_VERTICES, MAX_EDGES, RisesAbove, IsRising, MakeGraph, IsGraph}

-- how many links a pattern has at most
abbrev pub MAX_LINKS : ℕ
MAX_LINKS = 4096

-- no two nodes have one number
abbrev pub HaveDistinctNumbers : List PatternNode → Type 0
HaveDistinctNumbers [] = ⊤
HaveDistinctNumbers (node ∷ nodes) = AllByRecursion (λ other. other.number ≢ node.number) nodes × HaveDistinctNumbers nodes

-- a pattern within its limits, whose nodes have different numbers
pub record IsPattern (p : PatternGraph) : Type 0 where
  pub nodes : All (λ node. (node.number < 64) × (node.label < 2 ^ 32)) p.nodes
  pub links : All (λ link. (link.from < 64) × (link.to < 64)) p.links
  pub few_links : length p.links ≤ MAX_LINKS
  pub distinct : HaveDistinctNumbers p.nodes

abbrev pub IsQuery : Query → Type 0
IsQuery (query.Dist source) = source < 2 ^ 32
IsQuery query.Label = ⊤
IsQuery (query.Reach source) = source < 2 ^ 32
IsQuery (query.Sim pattern) = IsPattern pattern

abbrev pub IsPolicy : Policy → Type 0
IsPolicy policy.Bsp = ⊤
IsPolicy policy.Ap = ⊤
IsPolicy (policy.Ssp c) = c ≤ 1000000
IsPolicy (policy.Aap c l) = (c ≤ 1000000) × (1 ≤ l) × (l ≤ 1000000)

pub record AreSettings (s : Settings) : Type 0 where
  pub fragments : (1 ≤ s.fragments) × (s.fragments ≤ 64)
  pub lanes : (1 ≤ s.lanes) × (s.lanes ≤ 16)
  pub policy : IsPolicy s.policy
  pub snapshot : s.snapshot < 2 ^ 32

-- a job within all limits: the only ones that a reader gives, and that the theorems speak of
pub record IsJob (job : Job) : Type 0 where
  pub graph : IsGraph job.graph
  pub query : IsQuery job.query
  pub settings : AreSettings job.settings
