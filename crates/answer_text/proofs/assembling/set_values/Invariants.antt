use Rattle.std.proofs.Common.{◌≡◌, ◌<◌, ℕ, slice_index}
use Rattle.graph_core.specs.Fragments.{StandsAt}
use Rattle.answer_text.specs.Assembled.{ids_of, value_in}
use Rattle.answer_text.proofs.assembling.set_values.Given as goal

abbrev pub invariant-loop-place : goal.invariant-loop-place
invariant-loop-place l = record {
  ids : ids_of l.rows ≡ ids_of l.fn.rows;
  set : (p v : ℕ) → p < l.place → StandsAt l.owned p v → value_in l.rows v ≡ slice_index l.values p;
  others : (v : ℕ) → ((p : ℕ) → p < l.place → StandsAt l.owned p v → ⊥) → value_in l.rows v ≡ value_in l.fn.rows v;
}
