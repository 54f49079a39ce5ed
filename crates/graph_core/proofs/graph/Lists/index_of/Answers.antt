use Rattle.std.proofs.Common.{◌≡◌, ap, ◌∙◌}
use Rattle.graph_core.specs.Digraph.{index_in}
use Rattle.graph_core.proofs.VertexNumbers.{found_says, absent_says}
use Rattle.graph_core.proofs.graph.Lists.index_of.Goals as goal

pub returns-clause-found : goal.returns-clause-found
returns-clause-found c =
    let e : c.deref.result.now ≡ c.args.self.now.vertices = c.deref.ensures.value ∙ ap (λ g. g.vertices) c.self.view_is in
    found_says c.args.self.now.vertices c.args.id c.place_of.result (c.place_of.ensures ∙ ap (λ vs. index_in vs c.args.id) e)

pub returns-clause-absent : goal.returns-clause-absent
returns-clause-absent c =
    let e : c.deref.result.now ≡ c.args.self.now.vertices = c.deref.ensures.value ∙ ap (λ g. g.vertices) c.self.view_is in
    absent_says c.args.self.now.vertices c.args.id c.place_of.result (c.place_of.ensures ∙ ap (λ vs. index_in vs c.args.id) e)
