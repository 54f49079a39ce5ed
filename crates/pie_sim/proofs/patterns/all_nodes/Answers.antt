use Rattle.std.proofs.Common.{◌<◌, ◌^◌, ◌+◌, sym, subst, arith, List}
use Rattle.std.specs.List.{All}
use Rattle.std.proofs.lemmas.List.Elements.{All-push}
use Rattle.graph_core.specs.declared.pattern.PatternNode.{PatternNode}
use Rattle.graph_core.specs.Graphs.{HaveDistinctNumbers}
use Rattle.pie_sim.proofs.Distinct.{distinct-push}
use Rattle.pie_sim.proofs.patterns.all_nodes.Goals as goal

pub nodes-preserved : goal.nodes-preserved
nodes-preserved c =
    let nodes = c.nodes.nodes.items in
    let number = c.nodes.number in
    let node : PatternNode = record { number = number; label = 7 } in
    let so_far = c.nodes.invariant in
    let items = sym c.in_ok-push.ensures.items in
    let Fits : PatternNode → Type 0 = λ (n : PatternNode). (n.number < 64) × (n.label < 2 ^ 32) in
    let Below : PatternNode → Type 0 = λ (n : PatternNode). n.number < number + 1 in
    record {
      fit = subst (λ (ns : List PatternNode). All Fits ns) items (All-push Fits nodes node so_far.fit (c.nodes-test.true, omega arith));
      distinct = subst (λ (ns : List PatternNode). HaveDistinctNumbers ns) items (distinct-push nodes node so_far.distinct so_far.below);
      below = subst (λ (ns : List PatternNode). All Below ns) items (All-push Below nodes node (λ k d l. let h = so_far.below k d l in omega (arith, h)) (omega arith));
    }
