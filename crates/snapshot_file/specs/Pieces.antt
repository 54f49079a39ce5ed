-- A body that is read field by field, as its bytes come: which field comes next, whether it is right, and what is left to read behind it.
use Rattle.std.specs.Prelude.{ℕ, ◌+◌, ◌*◌, ◌-◌, ◌<◌, nat_le, nat_lt, Bool, true, false, if◌then◌else◌, List, [], ◌∷◌, ◌++◌, take, drop, set, get_or, replicate, length, slice_index, Result}
use Rattle.std.specs.List.{flat_map}
use Rattle.value_order.specs.declared.order.Order.{Order}
use Rattle.token_cut.specs.declared.phase.Phase.{Phase}
use Rattle.token_cut.specs.Parts.{PartValues, SnapshotParts, no_part}
use Rattle.token_cut.specs.Shapes.{PartStarts, Starts}
use Rattle.snapshot_file.specs.Tests.{is_epoch, value_tests, mail_tests}
use Rattle.snapshot_file.specs.Fields.{part_numbers, part_widths, field_widths}
use Rattle.snapshot_file.specs.Reading.{number, numbers, phase_of, part_of, parts_decoded, decoded, read_as, read_then}
use Rattle.snapshot_file.specs.declared.field.Field.{Field}
use Rattle.snapshot_file.specs.declared.field.Field.TheVariants.{Epoch, PhaseOf, NumberOf}

abbrev pub no_starts : PartStarts
no_starts = record { owned = []; mirrors = [] }

abbrev pub starts_at : ℕ → List PartStarts → PartStarts
starts_at k shape = get_or shape k no_starts

abbrev pub part_in : ℕ → List PartValues → PartValues
part_in k parts = get_or parts k no_part

-- ---- the fields, one after another

abbrev pub width_of : Field → ℕ
width_of Epoch = 8
width_of (PhaseOf k) = 1
width_of (NumberOf k n) = 8

-- a body of that shape has the field
abbrev pub IsField : List PartStarts → Field → Type 0
IsField shape Epoch = Unit {0}
IsField shape (PhaseOf k) = k < length shape
IsField shape (NumberOf k n) = (k < length shape) × (n < part_numbers (starts_at k shape))

-- it may come next: a number is one of a part's; behind the last part nothing comes
abbrev pub MayCome : List PartStarts → Field → Type 0
MayCome shape Epoch = Unit {0}
MayCome shape (PhaseOf k) = Unit {0}
MayCome shape (NumberOf k n) = (k < length shape) × (n < part_numbers (starts_at k shape))

-- the field at number n of part k: the phase of the next part, where the part has no more numbers
abbrev pub field_behind : ℕ → ℕ → PartStarts → Field
field_behind k n starts = if nat_lt n (part_numbers starts) then NumberOf k n else PhaseOf (k + 1)

abbrev pub next_field : List PartStarts → Field → Field
next_field shape Epoch = PhaseOf 0
next_field shape (PhaseOf k) = field_behind k 0 (starts_at k shape)
next_field shape (NumberOf k n) = field_behind k (n + 1) (starts_at k shape)

-- how many bytes each field has from that one on
abbrev pub widths_from : Starts → Field → List ℕ
widths_from shape Epoch = field_widths shape
widths_from shape (PhaseOf k) = flat_map part_widths (drop k shape.parts)
widths_from shape (NumberOf k n) = replicate (part_numbers (starts_at k shape.parts) - n) 8 ++ flat_map part_widths (drop (k + 1) shape.parts)

-- ---- a field that is right is put into a snapshot

abbrev pub tests_of : Order → PartStarts → Phase → List (ℕ → Bool)
tests_of order starts phase = value_tests order phase starts ++ mail_tests order starts

abbrev pub start_of : PartStarts → ℕ → ℕ
start_of starts n = get_or (starts.owned ++ starts.mirrors) n 0

abbrev pub with_phase : ℕ → PartValues → PartValues
with_phase byte part = record { phase = phase_of byte; values = part.values; mail = part.mail }

abbrev pub with_number : ℕ → ℕ → PartValues → PartValues
with_number n x part =
    if nat_lt n (length part.values)
    then record { phase = part.phase; values = set part.values n x; mail = part.mail }
    else record { phase = part.phase; values = part.values; mail = set part.mail (n - length part.values) x }

abbrev pub is_right_in : Order → List PartStarts → List PartValues → Field → List ℕ → Bool
is_right_in order shape parts Epoch bytes = true
is_right_in order shape parts (PhaseOf k) bytes = nat_le (slice_index bytes 0) 1
is_right_in order shape parts (NumberOf k n) bytes = get_or (tests_of order (starts_at k shape) (part_in k parts).phase) n (λ _. false) (number bytes)

abbrev pub is_right : Starts → ℕ → SnapshotParts → Field → List ℕ → Bool
is_right shape slot into Epoch bytes = is_epoch slot (number bytes)
is_right shape slot into (PhaseOf k) bytes = is_right_in shape.order shape.parts into.parts (PhaseOf k) bytes
is_right shape slot into (NumberOf k n) bytes = is_right_in shape.order shape.parts into.parts (NumberOf k n) bytes

abbrev pub put_in_parts : Field → List ℕ → List PartValues → List PartValues
put_in_parts Epoch bytes parts = parts
put_in_parts (PhaseOf k) bytes parts = set parts k (with_phase (slice_index bytes 0) (part_in k parts))
put_in_parts (NumberOf k n) bytes parts = set parts k (with_number n (number bytes) (part_in k parts))

abbrev pub put_field : Field → List ℕ → SnapshotParts → SnapshotParts
put_field Epoch bytes into = record { epoch = number bytes; parts = into.parts }
put_field (PhaseOf k) bytes into = record { epoch = into.epoch; parts = put_in_parts (PhaseOf k) bytes into.parts }
put_field (NumberOf k n) bytes into = record { epoch = into.epoch; parts = put_in_parts (NumberOf k n) bytes into.parts }

-- ---- what the bytes from a field on read as, where the fields before it stand in a snapshot

abbrev pub part_left : Order → PartStarts → PartValues → ℕ → ℕ → List ℕ → Result PartValues ℕ
part_left order starts part n at bytes =
    read_as (λ ns. part_of starts part.phase (take n (part.values ++ part.mail) ++ ns)) (numbers (drop n (tests_of order starts part.phase)) at bytes)

abbrev pub parts_left : Order → List PartStarts → Field → List PartValues → ℕ → List ℕ → Result (List PartValues) ℕ
parts_left order shape Epoch parts at bytes = parts_decoded order shape at bytes
parts_left order shape (PhaseOf k) parts at bytes = read_as (λ qs. take k parts ++ qs) (parts_decoded order (drop k shape) at bytes)
parts_left order shape (NumberOf k n) parts at bytes =
    let len = 8 * (part_numbers (starts_at k shape) - n) in
    read_then (λ part. read_as (λ qs. take k parts ++ part ∷ qs) (parts_decoded order (drop (k + 1) shape) (at + len) (drop len bytes)))
    (part_left order (starts_at k shape) (part_in k parts) n at bytes)

abbrev pub left_decoded : Starts → ℕ → Field → SnapshotParts → ℕ → List ℕ → Result SnapshotParts ℕ
left_decoded shape slot Epoch into at bytes = decoded shape slot at bytes
left_decoded shape slot (PhaseOf k) into at bytes = read_as (λ ps. record { epoch = into.epoch; parts = ps }) (parts_left shape.order shape.parts (PhaseOf k) into.parts at bytes)
left_decoded shape slot (NumberOf k n) into at bytes = read_as (λ ps. record { epoch = into.epoch; parts = ps }) (parts_left shape.order shape.parts (NumberOf k n) into.parts at bytes)
