use Rattle.std.proofs.Common.{ℕ, ap, ◌∙◌, List, ◌++◌, ◌∷◌, []}
use Rattle.graph_core.proofs.DrawnWords.{vertices_more}
use Rattle.graph_core.proofs.generated.numbered_vertices.Goals as goal

pub loop-number-preserved : goal.loop-number-preserved
loop-number-preserved c =
    let k = c.loop-number.number in
    c.in_ok-push.ensures.items ∙ ap (λ (vs : List (ℕ × ℕ)). vs ++ (k, 0) ∷ []) c.loop-number.invariant ∙ vertices_more k
