-- A body as a list of fields, whether they are right or wrong: the epoch, and for each part its phase, its values and its mail.
use Rattle.std.specs.Prelude.{◌≡◌, ℕ, zero, suc, ◌+◌, ◌*◌, ◌<◌, replicate, List, [], ◌∷◌, ◌++◌, take, drop, length, slice_index, sum}
use Rattle.std.specs.List.{flat_map}
use Rattle.token_cut.specs.Parts.{PartValues, SnapshotParts}
use Rattle.token_cut.specs.Shapes.{PartStarts, Starts}
use Rattle.snapshot_file.specs.Lengths.{part_length}
use Rattle.snapshot_file.specs.Bodies.{phase_byte}
use Rattle.snapshot_file.specs.Reading.{number}

-- ---- the fields of a snapshot

abbrev pub part_fields : PartValues → List ℕ
part_fields part = phase_byte part.phase ∷ part.values ++ part.mail

abbrev pub fields : SnapshotParts → List ℕ
fields snapshot = snapshot.epoch ∷ flat_map part_fields snapshot.parts

-- ---- the fields that stand in bytes

abbrev pub numbers_in : ℕ → List ℕ → List ℕ
numbers_in zero bytes = []
numbers_in (suc n) bytes = number bytes ∷ numbers_in n (drop 8 bytes)

abbrev pub part_numbers : PartStarts → ℕ
part_numbers starts = length starts.owned + 2 * length starts.mirrors

abbrev pub part_fields_in : PartStarts → List ℕ → List ℕ
part_fields_in starts bytes = slice_index bytes 0 ∷ numbers_in (part_numbers starts) (drop 1 bytes)

abbrev pub parts_fields_in : List PartStarts → List ℕ → List ℕ
parts_fields_in [] bytes = []
parts_fields_in (starts ∷ shape) bytes = part_fields_in starts bytes ++ parts_fields_in shape (drop (part_length starts) bytes)

abbrev pub fields_in : Starts → List ℕ → List ℕ
fields_in shape bytes = number bytes ∷ parts_fields_in shape.parts (drop 8 bytes)

-- ---- how many bytes each has

abbrev pub part_widths : PartStarts → List ℕ
part_widths starts = 1 ∷ replicate (part_numbers starts) 8

abbrev pub field_widths : Starts → List ℕ
field_widths shape = 8 ∷ flat_map part_widths shape.parts

-- The fields before the one at a place hold what stands in the bytes, and all others what they held. The first field stands at `base`.
pub record FillsUpTo (widths standing old new : List ℕ) (base place : ℕ) : Type 0 where
  pub count : ℕ
  pub within : count < length widths
  pub reach : base + sum (take count widths) ≡ place
  pub filled : new ≡ take count standing ++ drop count old
