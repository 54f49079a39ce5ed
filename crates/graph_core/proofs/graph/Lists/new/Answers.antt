use Rattle.std.proofs.Common.{◌≡◌, subst}
use Rattle.graph_core.specs.Digraph.{Digraph, IsGraph, graph_of}
use Rattle.graph_core.proofs.GraphLemmas.{graph_of_is_graph}
use Rattle.graph_core.proofs.graph.Lists.new.Goals as goal

pub invariant_of-result : goal.invariant_of-result
invariant_of-result c =
    let P : Digraph → Type 0 = λ g. IsGraph g in
    let e : graph_of c.args.vertices.items c.args.edges.items ≡ record { vertices = c.args.vertices.items; edges = c.placed_edges-edges.result.items } = cc c.placed_edges-edges.ensures in
    subst P e (graph_of_is_graph c.args.vertices.items c.args.edges.items c.requires)

pub returns-clause-made : goal.returns-clause-made
returns-clause-made c = invariant_of-result c
