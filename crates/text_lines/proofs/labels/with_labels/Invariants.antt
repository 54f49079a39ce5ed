use Rattle.std.proofs.Common.{◌≡◌, ◌++◌, List, ℕ, length}
use Rattle.text_lines.specs.Labels.{labelled}
use Rattle.text_lines.proofs.labels.with_labels.Given as goal

-- the labels that were taken are those behind the rest
abbrev pub invariant-labels : goal.invariant-labels
invariant-labels l =
    record {
      taken : List (ℕ × ℕ);
      back : l.rest ++ taken ≡ l.labels;
      set : l.vertices.items ≡ labelled taken l.numbers;
    }

abbrev pub decreases-labels : goal.decreases-labels
decreases-labels l = length l.rest
