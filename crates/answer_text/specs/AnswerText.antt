-- Answers as text. A text is a list of bytes, and "\n" is the byte 10.
use Rattle.std.specs.Prelude.{◌≡◌, ℕ, ◌==◌, if◌then◌else◌, List, [], ◌∷◌, ◌++◌, length, map, filter, flat_map, codes, decimal}
use Rattle.std.specs.List.{range_with_len, join_with_byte}
use Rattle.graph_core.specs.declared.query.Query.{Query}
use Rattle.graph_core.specs.declared.query.Query.TheVariants as query
use Rattle.graph_core.specs.declared.job.Job.{Job}
use Rattle.graph_core.specs.declared.TheConstants.{FAR}
use Rattle.graph_core.specs.Digraph.{Digraph}
use Rattle.graph_core.specs.Graphs.{count_of, number_at}
use Rattle.graph_core.specs.Meaning.{AreValues}
use Rattle.graph_core.specs.Queries.{has_bit}
use Rattle.answer_text.specs.declared.answer.Kind.{Kind}
use Rattle.answer_text.specs.declared.answer.Kind.TheVariants as kind
use Rattle.answer_text.specs.declared.answer.AnswerRow.{AnswerRow}

abbrev pub answer_row : ℕ → ℕ → AnswerRow
answer_row id value = record { id = id; value = value }

abbrev pub kind_text : Kind → List ℕ
kind_text kind.Dist = codes "dist"
kind_text kind.Label = codes "label"
kind_text kind.Reach = codes "reach"
kind_text kind.Sim = codes "sim"

-- numbers with a comma between each and the next, or a dash for none
abbrev pub numbers_text : List ℕ → List ℕ
numbers_text [] = codes "-"
numbers_text (n ∷ ns) = join_with_byte 44 (map decimal (n ∷ ns))

-- the numbers of the bits of a mask, in rising order
unfoldable pub bits_of : ℕ → List ℕ
bits_of mask = filter (has_bit mask) (range_with_len 0 64)

-- a distance or `far`, a number, `yes` for 0 and else `no`, or the bits of a mask
abbrev pub value_text : Kind → ℕ → List ℕ
value_text kind.Dist value = if value == FAR then codes "far" else decimal value
value_text kind.Label value = decimal value
value_text kind.Reach value = if value == 0 then codes "yes" else codes "no"
value_text kind.Sim value = numbers_text (bits_of value)

abbrev pub row_text : Kind → AnswerRow → List ℕ
row_text kind row = decimal row.id ++ codes " " ++ value_text kind row.value ++ codes "\n"

-- the kind, and how many rows come
abbrev pub head_text : Kind → ℕ → List ℕ
head_text kind count = codes "answer " ++ kind_text kind ++ codes " " ++ decimal count ++ codes "\n"

-- a first line, a line for each row, and a last line
abbrev pub answer_text : Kind → List AnswerRow → List ℕ
answer_text kind rows = head_text kind (length rows) ++ flat_map (row_text kind) rows ++ codes "end\n"

abbrev pub kind_of : Query → Kind
kind_of (query.Dist source) = kind.Dist
kind_of query.Label = kind.Label
kind_of (query.Reach source) = kind.Reach
kind_of (query.Sim pattern) = kind.Sim

-- a row for each vertex, in rising number
abbrev pub rows_of : Digraph → (ℕ → ℕ) → List AnswerRow
rows_of g values = map (λ v. answer_row (number_at g v) (values v)) (range_with_len 0 (count_of g))

-- the text of the answer that the job's values make
pub record IsAnswerText (job : Job) (text : List ℕ) : Type 0 where
  pub values : ℕ → ℕ
  pub right : AreValues job values
  pub spelled : text ≡ answer_text (kind_of job.query) (rows_of job.graph values)
