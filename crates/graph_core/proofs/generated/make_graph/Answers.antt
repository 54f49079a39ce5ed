use Rattle.std.proofs.Common.{ℕ, List, sym, subst}
use Rattle.graph_core.specs.declared.edge.Edge.{Edge}
use Rattle.graph_core.specs.Digraph.{MakeGraph}
use Rattle.graph_core.specs.Generated.{generated_vertices}
use Rattle.graph_core.proofs.DrawnWords.{generated_make}
use Rattle.graph_core.proofs.generated.make_graph.Goals as goal

pub from_lists-requires : goal.from_lists-requires
from_lists-requires c =
    subst (λ (vs : List (ℕ × ℕ)). MakeGraph vs c.in_ok-edges.edges.items) (sym c.in_ok-vertices.ensures)
    (subst (λ (es : List Edge). MakeGraph (generated_vertices c.args.vertices) es) (sym c.in_ok-edges.ensures)
    (generated_make c.args.vertices c.args.number c.requires.0 c.requires.1))
