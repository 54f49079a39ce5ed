-- Bytes on their way to a sink: some are written, and the rest wait behind them.
use Rattle.std.specs.Prelude.{◌≡◌, ℕ, List, ◌++◌, Option}
use Rattle.grape_port.specs.Ports.{Appends}

-- the text went behind what waited: a front of both is written now, and the rest waits
abbrev pub Puts : Option (List ℕ) → List ℕ → List ℕ → Option (List ℕ) → List ℕ → Type 0
Puts written waiting text written_after waiting_after =
    (front : List ℕ) × (waiting ++ text ≡ front ++ waiting_after) × Appends written front written_after
