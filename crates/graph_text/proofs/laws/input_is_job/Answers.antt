use Rattle.std.proofs.Common.{◌≡◌, ℕ, List, [], Option, Some, None, refl, length}
use Rattle.std.specs.Prelude.{IfOk}
use Rattle.graph_core.specs.Graphs.{IsJob}
use Rattle.line_statements.specs.declared.why.Why.{Why}
use Rattle.text_lines.specs.Lines.{lines_of}
use Rattle.line_statements.specs.declared.statement.Question.{Question}
use Rattle.line_statements.specs.declared.statement.Statement.{Statement}
use Rattle.graph_text.specs.Input.{BadLine, statements_of, first_bad, cause_of, first_of, question_in, missing_for, job_unless, job_or_cause, job_or_bad, job_of_lines}
use Rattle.line_statements.proofs.Ranges.{AsksInRange}
use Rattle.graph_text.proofs.Good.{AreGood, good_text}
use Rattle.graph_text.proofs.Jobs.{asks_in_range, job_is_job}
use Rattle.graph_text.proofs.laws.input_is_job.Goals as goal

missing_step : (ss : List Statement) (q : Question) (count : ℕ) (o : Option Why) → AreGood ss → AsksInRange q → IfOk (job_or_bad count (job_unless ss q o)) IsJob
missing_step ss q count None g h = job_is_job ss q g h
missing_step ss q count (Some why) g h = tt

asks_step : (ss : List Statement) (count : ℕ) (o : Option Question) → AreGood ss → first_of question_in ss ≡ o → IfOk (job_or_bad count (job_or_cause ss o)) IsJob
asks_step ss count None g e = tt
asks_step ss count (Some q) g e = missing_step ss q count (missing_for ss q) g (asks_in_range ss q g.in_range e)

lines_step : (lines : List (List ℕ)) (o : Option BadLine) → first_bad cause_of [] lines ≡ o → IfOk (job_of_lines lines o) IsJob
lines_step lines (Some first) e = tt
lines_step lines None e = asks_step (statements_of lines) (length lines) (first_of question_in (statements_of lines)) (good_text lines e) refl

pub returns : goal.returns
returns c = λ text. lines_step (lines_of text) (first_bad cause_of [] (lines_of text)) refl
