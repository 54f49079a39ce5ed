use Rattle.std.proofs.Common.{◌≡◌, ◌<◌, ◌+◌, ℕ, slice_index}
use Rattle.graph_core.specs.Fragments.{StandsAt}
use Rattle.fragment_cut.proofs.piece.number_places.Given as goal

abbrev pub invariant-loop-k : goal.invariant-loop-k
invariant-loop-k l = record {
  numbered : (j v : ℕ) → j < l.k → StandsAt l.vertices j v → slice_index l.places v ≡ l.first + j;
  others : (v : ℕ) → ((j : ℕ) → j < l.k → StandsAt l.vertices j v → ⊥) → slice_index l.places v ≡ slice_index l.fn.places v;
}
