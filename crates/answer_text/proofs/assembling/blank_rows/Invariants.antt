use Rattle.std.proofs.Common.{◌≡◌, map}
use Rattle.std.specs.List.{range_with_len}
use Rattle.graph_core.specs.Graphs.{count_of, number_at}
use Rattle.answer_text.specs.AnswerText.{answer_row}
use Rattle.answer_text.proofs.assembling.blank_rows.Given as goal

-- the rows of the vertices so far
abbrev pub invariant-loop-vertex : goal.invariant-loop-vertex
invariant-loop-vertex l = record {
  count : l.count ≡ count_of l.graph;
  rows : l.rows.items ≡ map (λ v. answer_row (number_at l.graph v) 0) (range_with_len 0 l.vertex);
}
