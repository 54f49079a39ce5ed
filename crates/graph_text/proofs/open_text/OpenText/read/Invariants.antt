use Rattle.std.proofs.Common.{◌≡◌, ℕ, List, ◌++◌, length}
use Rattle.graph_text.specs.ReaderState.{text_state}
use Rattle.graph_text.specs.Reader.{HasText}
use Rattle.graph_text.proofs.open_text.OpenText.read.Given as goal

-- what was taken of the piece was read
abbrev pub invariant-lines : goal.invariant-lines
invariant-lines l =
    record {
      taken : List ℕ;
      front : taken ++ l.rest ≡ l.piece;
      reads : (text : List ℕ) → HasText (text_state l.initial.self) text → HasText (text_state l.self) (text ++ taken);
    }

abbrev pub decreases-lines : goal.decreases-lines
decreases-lines l = length l.rest
