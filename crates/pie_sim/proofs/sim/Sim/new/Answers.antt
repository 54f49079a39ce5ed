use Rattle.std.proofs.Common.{◌≡◌, ◌<◌, sym, ◌∙◌, ap, subst, arith, length, map}
use Rattle.std.specs.List.{All}
use Rattle.graph_core.specs.declared.pattern.PatternNode.{PatternNode}
use Rattle.graph_core.specs.PatternGraph.{PatternGraph}
use Rattle.pie_sim.proofs.Numbers.{small_numbers, few_numbers}
use Rattle.pie_sim.proofs.sim.Sim.new.Goals as goal

pub invariant_of-result : goal.invariant_of-result
invariant_of-result c =
    let pattern = c.args.pattern.now in
    let numbers : c.in_ok-nodes.nodes.items ≡ map (λ (node : PatternNode). node.number) pattern.nodes =
    c.in_ok-nodes.ensures ∙ ap (map (λ (node : PatternNode). node.number)) (c.deref-2.ensures.value ∙ ap (λ (p : PatternGraph). p.nodes) c.pattern.view_is) in
    let targets = c.in_ok-targets.ensures.nodes in
    let len = ap length numbers in (
      omega (arith, targets, c.in_ok-targets.targets.ok),
      omega (arith, len, few_numbers pattern c.requires, c.in_ok-nodes.nodes.ok),
      subst (λ ns. All (λ n. n < 64) ns) (sym numbers) (small_numbers pattern c.requires),
    )
