-- The jobs of some worked inputs.
use Rattle.std.specs.Prelude.{ℕ, List, [], ◌∷◌, slice_index}
use Rattle.graph_core.specs.declared.query.Query.TheVariants as query
use Rattle.graph_core.specs.declared.settings.Cut.TheVariants as cut
use Rattle.graph_core.specs.declared.settings.Policy.TheVariants as policy
use Rattle.graph_core.specs.declared.edge.Edge.{Edge}
use Rattle.graph_core.specs.declared.query.Query.{Query}
use Rattle.graph_core.specs.declared.job.Job.{Job}
use Rattle.graph_core.specs.Digraph.{Digraph}
use Rattle.graph_core.specs.PatternGraph.{PatternGraph}
use Rattle.graph_core.specs.Equations.{Assignment}

abbrev pub edge_of : ℕ → ℕ → ℕ → Edge
edge_of from to weight = record { from = from; to = to; weight = weight }

abbrev pub job_with : Digraph → Query → Job
job_with g q = record { graph = g; query = q; settings = record { fragments = 4; lanes = 2; cut = cut.Hash; policy = policy.Aap 4 2; snapshot = 0 } }

-- the assignment that a list gives by index
abbrev pub listed : List ℕ → Assignment
listed values v = slice_index values v

-- distances from vertex 1 over the edges 1 2 5, 2 3 1 and 1 3 9
abbrev pub detour : Job
detour = job_with (record { vertices = (1, 0) ∷ (2, 0) ∷ (3, 0) ∷ []; edges = edge_of 0 1 5 ∷ edge_of 0 2 9 ∷ edge_of 1 2 1 ∷ [] }) (query.Dist 1)

-- the edges 2 1, 2 3 and 9 7
abbrev pub two_parts : Digraph
two_parts = record { vertices = (1, 0) ∷ (2, 0) ∷ (3, 0) ∷ (7, 0) ∷ (9, 0) ∷ []; edges = edge_of 1 0 1 ∷ edge_of 1 2 1 ∷ edge_of 4 3 1 ∷ [] }

-- two pattern nodes that lead to each other
abbrev pub pair : PatternGraph
pair = record { nodes = record { number = 0; label = 1 } ∷ record { number = 1; label = 2 } ∷ []; links = record { from = 0; to = 1 } ∷ record { from = 1; to = 0 } ∷ [] }

-- a ring of four vertices whose labels alternate
abbrev pub ring : Job
ring = job_with (record { vertices = (1, 1) ∷ (2, 2) ∷ (3, 1) ∷ (4, 2) ∷ []; edges = edge_of 0 1 1 ∷ edge_of 1 2 1 ∷ edge_of 2 3 1 ∷ edge_of 3 0 1 ∷ [] }) (query.Sim pair)

-- the ring without its last edge
abbrev pub chain : Job
chain = job_with (record { vertices = (1, 1) ∷ (2, 2) ∷ (3, 1) ∷ (4, 2) ∷ []; edges = edge_of 0 1 1 ∷ edge_of 1 2 1 ∷ edge_of 2 3 1 ∷ [] }) (query.Sim pair)
