use Rattle.std.proofs.Common.{[], ◌∷◌, refl}
use Rattle.std.specs.Fmt.{digits}
use Rattle.graph_core.specs.Rows.{listed}
use Rattle.graph_core.proofs.RowLemmas.{detour_values}
use Rattle.answer_text.proofs.worked.summary_rows.Goals as goal

pub returns-clause-one : goal.returns-clause-one
unfolding digits
returns-clause-one c = refl

pub returns-clause-wide : goal.returns-clause-wide
unfolding digits
returns-clause-wide c = refl

pub returns-clause-whole_line : goal.returns-clause-whole_line
unfolding digits
returns-clause-whole_line c = record { values = listed (0 ∷ 5 ∷ 6 ∷ []); right = detour_values; spelled = refl }
