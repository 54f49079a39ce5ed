-- How many bytes a body, a slot and a file have, by the shape of a job's snapshots.
use Rattle.std.specs.Prelude.{ℕ, ◌+◌, ◌*◌, List, [], ◌∷◌, take, length}
use Rattle.token_cut.specs.Shapes.{PartStarts, Starts}

-- the phase, a number for each place, and a mail number for each mirror
abbrev pub part_length : PartStarts → ℕ
part_length starts = 1 + 8 * length starts.owned + 16 * length starts.mirrors

abbrev pub parts_length : List PartStarts → ℕ
parts_length [] = 0
parts_length (starts ∷ shape) = part_length starts + parts_length shape

-- the epoch and the parts
abbrev pub body_length : Starts → ℕ
body_length shape = 8 + parts_length shape.parts

-- a slot is a gate and a body
abbrev pub slot_length : Starts → ℕ
slot_length shape = body_length shape + 1

-- a header of 64 bytes and two slots
abbrev pub file_length : Starts → ℕ
file_length shape = 64 + 2 * slot_length shape

-- where the phase of a part stands in a body
abbrev pub phase_at : Starts → ℕ → ℕ
phase_at shape part = 8 + parts_length (take part shape.parts)
