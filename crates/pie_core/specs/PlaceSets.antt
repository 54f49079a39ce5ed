-- The places that wait, as contracts see them: for each place whether it does.
use Rattle.std.specs.Prelude.{ℕ, Bool, false, List, count_by, slice_index_or}

abbrev pub waits : List Bool → ℕ → Bool
waits waiting place = slice_index_or waiting place false

-- how many places wait
abbrev pub how_many : List Bool → ℕ
how_many waiting = count_by (λ b. b) waiting
