-- The words that a command may have.
use Rattle.std.specs.Prelude.{ℕ, List, [], ◌∷◌, Option, Some, None, codes, bytes_eq, ◌&&◌, nat_le, if◌then◌else◌}
use Rattle.grape_port.specs.Decimal.{number_of}
use Rattle.command_words.specs.declared.words.Mode.{Mode}
use Rattle.command_words.specs.declared.words.Mode.TheVariants as mode

-- a count of vertices within the limits, and a number
abbrev pub generated_by : Option ℕ → Option ℕ → Option Mode
generated_by (Some vertices) (Some number) = if nat_le 1 vertices && nat_le vertices 1000000 then Some (mode.Demo vertices number) else None
generated_by vertices number = None

abbrev pub generated : List ℕ → List ℕ → Option Mode
generated vertices number = generated_by (number_of vertices) (number_of number)

-- what the words ask for, if they ask for anything
abbrev pub mode_of : List (List ℕ) → Option Mode
mode_of [] = None
mode_of (word ∷ []) = if bytes_eq word (codes "run") then Some mode.Run else if bytes_eq word (codes "resume") then Some mode.Resume else None
mode_of (word ∷ next ∷ []) = None
mode_of (word ∷ vertices ∷ number ∷ []) = if bytes_eq word (codes "demo") then generated vertices number else None
mode_of (word ∷ first ∷ second ∷ third ∷ words) = None
