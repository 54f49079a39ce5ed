use Rattle.std.proofs.Common.{◌≡◌, [], ◌∷◌, ◌++◌, sym, ◌∙◌, ap, arith}
use Rattle.std.proofs.lemmas.Grind.{common_steps}
use Rattle.std.proofs.lemmas.List.FromFn.{map-range_with_len_more}
use Rattle.graph_core.specs.Graphs.{number_at}
use Rattle.answer_text.specs.AnswerText.{answer_row}
use Rattle.answer_text.proofs.assembling.blank_rows.Goals as goal

pub loop-vertex-preserved : goal.loop-vertex-preserved
loop-vertex-preserved c =
    let here = c.loop-vertex.vertex in
    let row = answer_row (number_at c.args.graph.now here) 0 in
    let pushed : c.push.new.self.items ≡ c.loop-vertex.rows.items ++ row ∷ [] = grind (arith, common_steps) in
    record {
      count = c.loop-vertex.invariant.count;
      rows = pushed ∙ ap (λ rows. rows ++ row ∷ []) c.loop-vertex.invariant.rows ∙ sym (map-range_with_len_more (λ v. answer_row (number_at c.args.graph.now v) 0) 0 here here (omega arith));
    }
