-- What the bytes of a body read as: a snapshot, or the file place of the first field that is wrong. Each reader has the file place of its first byte.
use Rattle.std.specs.Prelude.{ℕ, ◌+◌, nat_le, Bool, ◌==◌, if◌then◌else◌, List, [], ◌∷◌, ◌++◌, take, drop, length, slice_index, Result, Ok, Err}
use Rattle.byteorder.specs.Endian.{big_number}
use Rattle.value_order.specs.declared.order.Order.{Order}
use Rattle.token_cut.specs.declared.phase.Phase.{Phase}
use Rattle.token_cut.specs.declared.phase.Phase.TheVariants.{Fresh, Rest}
use Rattle.snapshot_file.specs.Tests.{is_epoch, value_tests, mail_tests}
use Rattle.token_cut.specs.Parts.{PartValues, SnapshotParts}
use Rattle.token_cut.specs.Shapes.{PartStarts, Starts}
use Rattle.snapshot_file.specs.Lengths.{part_length}

abbrev pub read_as : {X Y : Type 0} → (X → Y) → Result X ℕ → Result Y ℕ
read_as f (Ok x) = Ok (f x)
read_as f (Err place) = Err place

abbrev pub read_then : {X Y : Type 0} → (X → Result Y ℕ) → Result X ℕ → Result Y ℕ
read_then f (Ok x) = f x
read_then f (Err place) = Err place

-- the number at the front, the highest byte first
abbrev pub number : List ℕ → ℕ
number bytes = big_number 8 bytes

-- a number for each test, which it passes
abbrev pub numbers : List (ℕ → Bool) → ℕ → List ℕ → Result (List ℕ) ℕ
numbers [] at bytes = Ok []
numbers (test ∷ tests) at bytes =
    if test (number bytes) then read_as (λ ns. number bytes ∷ ns) (numbers tests (at + 8) (drop 8 bytes)) else Err at

abbrev pub phase_of : ℕ → Phase
phase_of byte = if byte == 0 then Fresh else Rest

-- the numbers of a part: first the values
abbrev pub part_of : PartStarts → Phase → List ℕ → PartValues
part_of starts phase ns =
    let places = length starts.owned + length starts.mirrors in
    record { phase = phase; values = take places ns; mail = drop places ns }

abbrev pub part_decoded : Order → PartStarts → ℕ → List ℕ → Result PartValues ℕ
part_decoded order starts at bytes =
    let phase = phase_of (slice_index bytes 0) in
    if nat_le (slice_index bytes 0) 1
    then read_as (part_of starts phase) (numbers (value_tests order phase starts ++ mail_tests order starts) (at + 1) (drop 1 bytes))
    else Err at

abbrev pub parts_decoded : Order → List PartStarts → ℕ → List ℕ → Result (List PartValues) ℕ
parts_decoded order [] at bytes = Ok []
parts_decoded order (starts ∷ shape) at bytes =
    read_then (λ part. read_as (λ parts. part ∷ parts) (parts_decoded order shape (at + part_length starts) (drop (part_length starts) bytes)))
    (part_decoded order starts at bytes)

-- what a body reads as in a slot
abbrev pub decoded : Starts → ℕ → ℕ → List ℕ → Result SnapshotParts ℕ
decoded shape slot at bytes =
    if is_epoch slot (number bytes)
    then read_as (λ parts. record { epoch = number bytes; parts = parts }) (parts_decoded shape.order shape.parts (at + 8) (drop 8 bytes))
    else Err at
