-- The answer of a job from the values that its fragments have.
use Rattle.std.specs.Prelude.{◌≡◌, ℕ, List, [], length, map, slice_index, slice_index_or}
use Rattle.std.specs.List.{AllZip}
use Rattle.graph_core.specs.declared.job.Job.{Job}
use Rattle.graph_core.specs.Parts.{FragmentLists, place_count}
use Rattle.graph_core.specs.Fragments.{IsOwnedAt, pieces_of}
use Rattle.pie_core.specs.Locals.{LocalValues}
use Rattle.answer_text.specs.declared.answer.AnswerRow.{AnswerRow}
use Rattle.answer_text.specs.AnswerTable.{AnswerTable}
use Rattle.answer_text.specs.AnswerText.{answer_row, kind_of, rows_of}

-- each fragment has its values, in order, with one for each place
abbrev pub FitParts : List FragmentLists → List LocalValues → Type 0
FitParts parts locals = AllZip (λ part local. length local.values ≡ place_count part) parts locals

-- the values of the places of fragment i
abbrev pub values_at : List LocalValues → ℕ → List ℕ
values_at locals i = slice_index_or (map (λ local. local.values) locals) i []

-- a row for each vertex, in rising number, with the value of the place that owns the vertex
pub record IsAssembled (job : Job) (locals : List LocalValues) (answer : AnswerTable) : Type 0 where
  pub kind : answer.kind ≡ kind_of job.query
  pub values : ℕ → ℕ
  pub owners : (i p v : ℕ) → IsOwnedAt (pieces_of job) i p v → values v ≡ slice_index (values_at locals i) p
  pub rows : answer.rows ≡ rows_of job.graph values

-- the numbers of rows
abbrev pub ids_of : List AnswerRow → List ℕ
ids_of rows = map (λ row. row.id) rows

-- the value of row v
abbrev pub value_in : List AnswerRow → ℕ → ℕ
value_in rows v = (slice_index_or rows v (answer_row 0 0)).value
