use Rattle.std.proofs.Common.{◌*◌, ◌%◌, ◌^◌, ◌<◌, sym, ◌∙◌, ap, subst, bit_or, get_or, List}
use Rattle.std.specs.List.{list_any, All}
use Rattle.std.proofs.lemmas.List.{take_all}
use Rattle.graph_core.specs.declared.pattern.PatternNode.{PatternNode}
use Rattle.graph_core.specs.PatternGraph.{PatternGraph}
use Rattle.graph_core.specs.Queries.{mask_of}
use Rattle.graph_core.proofs.Masks.{mask-none}
use Rattle.graph_core.proofs.NodeMasks.{has_label, node_taken, node_passed}
use Rattle.graph_core.proofs.job.nodes_with_label.Goals as goal
use Rattle.graph_core.proofs.job.nodes_with_label.Goals.{then-node-label, else-node-label}

pub loop-node-init : goal.loop-node-init
loop-node-init c = sym mask-none

pub loop-node-preserved : goal.loop-node-preserved
loop-node-preserved c =
    let nodes = c.deref-node-items.result.now in
    let i = c.loop-node.node-index in
    let none : PatternNode = record { number = 0; label = 0 } in
    let same = c.deref-node-items.ensures.value ∙ ap (λ (p : PatternGraph). p.nodes) c.pattern.view_is in
    let small = subst (λ (ns : List PatternNode). All (λ node. (node.number < 64) × (node.label < 2 ^ 32)) ns) (sym same) c.requires.nodes in
    elim c.if-node-label.branch [
      | then-node-label w ↦
          let h = w.if-node-label.true in
          w.mask-is ∙ (ap (λ m. bit_or m (1 * 2 ^ (get_or nodes i none).number % 2 ^ 64)) c.loop-node.invariant ∙ node_taken nodes i c.args.label none c.loop-node-test.true (small i none c.loop-node-test.true).0 h)
      | else-node-label w ↦ w.mask-is ∙ (c.loop-node.invariant ∙ node_passed nodes i c.args.label none c.loop-node-test.true w.if-node-label.false)
    ]

pub returns : goal.returns
returns c =
    c.loop-node.invariant
    ∙ ap (λ (nodes : List PatternNode). mask_of (λ k. list_any (has_label c.args.label k) nodes))
    (take_all c.loop-node.node-index c.deref-node-items.result.now c.loop-node-test.false ∙ (c.deref-node-items.ensures.value ∙ ap (λ (p : PatternGraph). p.nodes) c.pattern.view_is))
