-- Jobs that ask for a simulation, and what the program keeps of their pattern.
use Rattle.std.specs.Prelude.{◌≡◌, ℕ, ◌<◌, ◌==◌, ◌&&◌, List, length, map, slice_index, IsTrue}
use Rattle.std.specs.List.{list_any}
use Rattle.graph_core.specs.declared.pattern.PatternLink.{PatternLink}
use Rattle.graph_core.specs.declared.query.Query.{Query}
use Rattle.graph_core.specs.declared.query.Query.TheVariants.{Dist, Label, Reach, Sim}
use Rattle.graph_core.specs.declared.job.Job.{Job}
use Rattle.graph_core.specs.PatternGraph.{PatternGraph}
use Rattle.graph_core.specs.Graphs.{IsJob}
use Rattle.graph_core.specs.Queries.{has_bit, mask_of}

abbrev pub HasBit : ℕ → ℕ → Type 0
HasBit n k = IsTrue (has_bit n k)

-- the nodes to which links lead from node k, a bit a node
abbrev pub targets_from : List PatternLink → ℕ → ℕ
targets_from links k = mask_of (λ m. list_any (λ link. (link.from == k) && (link.to == m)) links)

-- for each node, from 0 to 63, the nodes to which its links lead
pub record AreTargets (targets : List ℕ) (links : List PatternLink) : Type 0 where
  pub nodes : length targets ≡ 64
  pub each : (k : ℕ) → k < 64 → slice_index targets k ≡ targets_from links k

-- the program of a simulation as contracts see it: the targets of its links, and the numbers of its nodes
pub record SimValues : Type 0 where
  pub targets : List ℕ
  pub nodes : List ℕ

-- the program of a pattern
pub record IsSimOf (sim : SimValues) (pattern : PatternGraph) : Type 0 where
  pub targets : AreTargets sim.targets pattern.links
  pub nodes : sim.nodes ≡ map (λ node. node.number) pattern.nodes

-- how many nodes the pattern has that a query asks for
abbrev pub nodes_asked : Query → ℕ
nodes_asked (Dist source) = 0
nodes_asked Label = 0
nodes_asked (Reach source) = 0
nodes_asked (Sim pattern) = length pattern.nodes

-- a job that asks for the simulation of this program's pattern
pub record IsSimJob (sim : SimValues) (job : Job) : Type 0 where
  pub is_job : IsJob job
  pub pattern : PatternGraph
  pub asks : job.query ≡ Sim pattern
  pub is_sim : IsSimOf sim pattern
