use Rattle.std.proofs.Common.{◌∙◌, ap, List, ◌++◌, ◌∷◌, [], map}
use Rattle.std.specs.List.{range_with_len}
use Rattle.graph_core.specs.declared.edge.Edge.{Edge}
use Rattle.graph_core.specs.Generated.{generated_edge}
use Rattle.graph_core.proofs.DrawnWords.{next_is, past_is, edges_more}
use Rattle.graph_core.proofs.generated.drawn_edges.Goals as goal

pub loop-edge-preserved : goal.loop-edge-preserved
loop-edge-preserved c =
    let k = c.loop-edge._edge in
    let edge = c.next_edge-edge.ensures.edge ∙ next_is c.args.vertices c.args.number k c.loop-edge.words c.loop-edge.invariant.1 in
    let before : List Edge = map (generated_edge c.args.vertices c.args.number) (range_with_len 0 k) in (
      c.in_ok-push.ensures.items ∙ ap (λ (es : List Edge). es ++ c.next_edge-edge.result ∷ []) c.loop-edge.invariant.0 ∙ ap (λ (e : Edge). before ++ e ∷ []) edge ∙ edges_more c.args.vertices c.args.number k,
      c.next_edge-edge.ensures.state ∙ past_is c.args.number k c.loop-edge.words c.loop-edge.invariant.1,
    )
