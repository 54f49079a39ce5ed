-- What the distances of an answer come to, and the line that says it.
use Rattle.std.specs.Prelude.{◌≡◌, ℕ, Bool, not, ◌==◌, max, List, [], ◌∷◌, ◌++◌, length, map, filter, codes, decimal}
use Rattle.std.specs.List.{sum}
use Rattle.graph_core.specs.declared.job.Job.{Job}
use Rattle.graph_core.specs.declared.TheConstants.{FAR}
use Rattle.graph_core.specs.Meaning.{AreValues}
use Rattle.answer_text.specs.declared.answer.AnswerRow.{AnswerRow}
use Rattle.answer_text.specs.declared.totals.Totals.{Totals}
use Rattle.answer_text.specs.AnswerText.{rows_of}

-- whether a row has a distance
abbrev pub is_reached : AnswerRow → Bool
is_reached row = not (row.value == FAR)

-- the distances that rows have
abbrev pub distances_in : List AnswerRow → List ℕ
distances_in rows = map (λ row. row.value) (filter is_reached rows)

-- the greatest of some numbers, and 0 where there are none
abbrev pub greatest_of : List ℕ → ℕ
greatest_of [] = 0
greatest_of (n ∷ ns) = max n (greatest_of ns)

-- how many rows there are, how many of them have a distance, the sum of these distances and the greatest
abbrev pub totals_of : List AnswerRow → Totals
totals_of rows = record {
  count = length rows;
  reached = length (distances_in rows);
  sum = sum (distances_in rows);
  greatest = greatest_of (distances_in rows);
}

abbrev pub summary_text : Totals → List ℕ
summary_text totals =
    codes "summary dist " ++ decimal totals.count ++ codes " reached " ++ decimal totals.reached ++ codes " sum " ++ decimal totals.sum ++ codes " greatest " ++ decimal totals.greatest ++ codes "\n"

-- the line of the totals that the job's values make
pub record IsSummaryText (job : Job) (text : List ℕ) : Type 0 where
  pub values : ℕ → ℕ
  pub right : AreValues job values
  pub spelled : text ≡ summary_text (totals_of (rows_of job.graph values))
