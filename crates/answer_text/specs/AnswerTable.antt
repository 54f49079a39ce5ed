-- An answer as a table.
use Rattle.std.specs.Prelude.{List}
use Rattle.answer_text.specs.declared.answer.Kind.{Kind}
use Rattle.answer_text.specs.declared.answer.AnswerRow.{AnswerRow}

-- what is told of each vertex, and a row for each
pub record AnswerTable : Type 0 where
  pub kind : Kind
  pub rows : List AnswerRow
