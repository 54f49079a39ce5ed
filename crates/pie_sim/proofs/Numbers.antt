-- The numbers of a pattern's nodes.
use Rattle.std.proofs.Common.{◌≡◌, ◌≢◌, ℕ, ◌^◌, ◌<◌, ◌≤◌, false, sym, arith, List, [], ◌∷◌, length, map, nat_eq}
use Rattle.std.specs.List.{All, AllByRecursion, IsDistinct}
use Rattle.std.proofs.lemmas.Bool.{eqb-true, ne_eqb}
use Rattle.std.proofs.lemmas.List.Elements.{All-map, All-contains}
use Rattle.std.proofs.lemmas.Map.Steps.{length-le_from_distinct_below}
use Rattle.graph_core.specs.declared.pattern.PatternNode.{PatternNode}
use Rattle.graph_core.specs.PatternGraph.{PatternGraph}
use Rattle.graph_core.specs.Graphs.{HaveDistinctNumbers, IsPattern}
use Rattle.graph_core.proofs.Lists.{any_gives, map_contains}

abbrev numbers : List PatternNode → List ℕ
numbers nodes = map (λ (node : PatternNode). node.number) nodes

apart_numbers : (n : ℕ) (nodes : List PatternNode) → AllByRecursion (λ (other : PatternNode). other.number ≢ n) nodes → AllByRecursion (λ y. nat_eq n y ≡ false) (numbers nodes)
apart_numbers n [] h = tt
apart_numbers n (node ∷ nodes) h = (ne_eqb n node.number (λ e. h.0 (sym e)), apart_numbers n nodes h.1)

distinct_numbers : (nodes : List PatternNode) → HaveDistinctNumbers nodes → IsDistinct nat_eq (numbers nodes)
unfolding IsDistinct
distinct_numbers [] h = tt
distinct_numbers (node ∷ nodes) h = (apart_numbers node.number nodes h.0, distinct_numbers nodes h.1)

module _ (pattern : PatternGraph) (is : IsPattern pattern) where
  pub small_numbers : All (λ n. n < 64) (numbers pattern.nodes)
  small_numbers = All-map (λ n. n < 64) (λ (node : PatternNode). node.number) pattern.nodes (λ k d l. (is.nodes k d l).0)

  pub few_numbers : length (numbers pattern.nodes) ≤ 64
  few_numbers = length-le_from_distinct_below (numbers pattern.nodes) 64 (distinct_numbers pattern.nodes is.distinct) (λ q t.
      let f = any_gives (λ (y : ℕ). nat_eq q y) (numbers pattern.nodes) t in
      let node = map_contains (λ (node : PatternNode). node.number) pattern.nodes f.0 f.1 in
      let small = (All-contains (λ (node : PatternNode). (node.number < 64) × (node.label < 2 ^ 32)) pattern.nodes node.0 is.nodes node.1).0 in
      let same = node.2 in
      let there = eqb-true q f.0 f.2 in
      omega (arith, small, same, there))
