-- Nodes of a pattern in rising order differ.
use Rattle.std.proofs.Common.{◌≢◌, suc, ◌<◌, arith, List, [], ◌∷◌, ◌++◌}
use Rattle.std.specs.List.{All, AllByRecursion}
use Rattle.graph_core.specs.declared.pattern.PatternNode.{PatternNode}
use Rattle.graph_core.specs.Graphs.{HaveDistinctNumbers}

apart-push : (nodes : List PatternNode) (first node : PatternNode) → AllByRecursion (λ (other : PatternNode). other.number ≢ first.number) nodes → node.number ≢ first.number → AllByRecursion (λ (other : PatternNode). other.number ≢ first.number) (nodes ++ node ∷ [])
apart-push [] first node h d = (d, tt)
apart-push (n ∷ ns) first node h d = (h.0, apart-push ns first node h.1 d)

distinct-step : (nodes : List PatternNode) (node : PatternNode) → HaveDistinctNumbers nodes → AllByRecursion (λ (other : PatternNode). other.number < node.number) nodes → HaveDistinctNumbers (nodes ++ node ∷ [])
distinct-step [] node h below = (tt, tt)
distinct-step (n ∷ ns) node h below = (apart-push ns n node h.0 (λ e. absurd (omega (arith, below.0, e))), distinct-step ns node h.1 below.1)

by_recursion : (nodes : List PatternNode) (node : PatternNode) → All (λ (other : PatternNode). other.number < node.number) nodes → AllByRecursion (λ (other : PatternNode). other.number < node.number) nodes
by_recursion [] node h = tt
by_recursion (n ∷ ns) node h = (h 0 n (omega arith), by_recursion ns node (λ k d l. h (suc k) d (omega (arith, l))))

pub distinct-push : (nodes : List PatternNode) (node : PatternNode) → HaveDistinctNumbers nodes → All (λ (other : PatternNode). other.number < node.number) nodes → HaveDistinctNumbers (nodes ++ node ∷ [])
distinct-push nodes node h below = distinct-step nodes node h (by_recursion nodes node below)
