use Rattle.std.proofs.Common.{◌≡◌, sym, ap, subst, ◌∙◌}
use Rattle.std.specs.Prelude.{filter_map}
use Rattle.graph_core.specs.Graphs.{MakeGraph, graph_of}
use Rattle.text_lines.specs.NumberSets.{DoRise}
use Rattle.graph_text.specs.Input.{edge_in, vertices_of}
use Rattle.graph_text.proofs.Jobs.{numbers_rise}
use Rattle.graph_text.proofs.LabelLemmas.{labels_among, labelled_vertices}
use Rattle.graph_text.proofs.gathered.graph_from.Goals as goal

pub with_labels-requires-clause-rising : goal.with_labels-requires-clause-rising
with_labels-requires-clause-rising c = subst DoRise (sym (c.deref.ensures.value ∙ c.in_ok-sorted.ensures ∙ c.requires.1.numbers_given)) (numbers_rise c.requires.0)

pub with_labels-requires-clause-among : goal.with_labels-requires-clause-among
with_labels-requires-clause-among c =
    labels_among c.requires.0 c.deref.result.now c.args.labels.now (c.deref.ensures.value ∙ c.in_ok-sorted.ensures ∙ c.requires.1.numbers_given) c.requires.1.labels_given

pub from_lists-requires : goal.from_lists-requires
from_lists-requires c =
    let vertices : c.in_ok-vertices.vertices.items ≡ vertices_of c.requires.0
    = c.in_ok-vertices.ensures
    ∙ labelled_vertices c.requires.0 c.deref.result.now c.args.labels.now (c.deref.ensures.value ∙ c.in_ok-sorted.ensures ∙ c.requires.1.numbers_given) c.requires.1.labels_given
    in subst (MakeGraph c.in_ok-vertices.vertices.items) (sym c.requires.1.edges_given)
    (subst (λ vs. MakeGraph vs (filter_map edge_in c.requires.0)) (sym vertices) c.requires.2)

pub returns-clause-ok : goal.returns-clause-ok
returns-clause-ok c = λ ss h.
    let vertices : c.in_ok-vertices.vertices.items ≡ vertices_of ss
    = c.in_ok-vertices.ensures
    ∙ labelled_vertices ss c.deref.result.now c.args.labels.now (c.deref.ensures.value ∙ c.in_ok-sorted.ensures ∙ h.numbers_given) h.labels_given
    in c.in_ok-graph.ensures.exact
    ∙ ap (graph_of c.in_ok-vertices.vertices.items) h.edges_given
    ∙ ap (λ vs. graph_of vs (filter_map edge_in ss)) vertices
