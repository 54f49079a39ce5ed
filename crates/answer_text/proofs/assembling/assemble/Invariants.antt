use Rattle.std.proofs.Common.{◌≡◌, ◌<◌, ℕ, slice_index}
use Rattle.graph_core.specs.Fragments.{IsOwnedAt, pieces_of}
use Rattle.answer_text.specs.AnswerText.{rows_of}
use Rattle.answer_text.specs.Assembled.{ids_of, value_in, values_at}
use Rattle.answer_text.proofs.assembling.assemble.Given as goal

-- the vertices of the fragments so far have their values
abbrev pub invariant-loop-number : goal.invariant-loop-number
invariant-loop-number l = record {
  ids : ids_of l.rows.items ≡ ids_of (rows_of l.job.graph (λ v. 0));
  owners : (i p v : ℕ) → i < l.number → IsOwnedAt (pieces_of l.job) i p v → value_in l.rows.items v ≡ slice_index (values_at l.locals i) p;
}
