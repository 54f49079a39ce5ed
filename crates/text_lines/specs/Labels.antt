-- Labels of vertices, as pairs of a number and a label.
use Rattle.std.specs.Prelude.{ℕ, ◌==◌, List, map, unwrap_or}
use Rattle.std.specs.Map.{lookup}

-- the label that stands first beside a number, or 0
abbrev pub label_among : List (ℕ × ℕ) → ℕ → ℕ
label_among labels number = unwrap_or (lookup (λ n. n == number) labels) 0

-- the vertices with these numbers and labels
abbrev pub labelled : List (ℕ × ℕ) → List ℕ → List (ℕ × ℕ)
labelled labels numbers = map (λ n. (n, label_among labels n)) numbers
