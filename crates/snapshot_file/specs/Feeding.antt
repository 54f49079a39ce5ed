-- What the pieces of a body show, and what a reader of them knows.
use Rattle.std.specs.Prelude.{◌≡◌, ℕ, ◌+◌, ◌<◌, ◌≤◌, List, ◌++◌, take, drop, length, slice_index, sum, None, Err}
use Rattle.token_cut.specs.Parts.{SnapshotParts}
use Rattle.token_cut.specs.Shapes.{Starts}
use Rattle.snapshot_file.specs.Fields.{field_widths}
use Rattle.snapshot_file.specs.Reading.{decoded}
use Rattle.snapshot_file.specs.Pieces.{MayCome, width_of, widths_from, left_decoded}
use Rattle.snapshot_file.specs.ReaderState.{ReaderState}

-- The first bytes of a body show that the field at that file place is its first wrong one: they hold the whole field, and whatever follows, it is.
pub record Shows (shape : Starts) (slot base : ℕ) (bytes : List ℕ) (place : ℕ) : Type 0 where
  pub count : ℕ
  pub within : count < length (field_widths shape)
  pub reach : base + sum (take count (field_widths shape)) ≡ place
  pub whole : sum (take (count + 1) (field_widths shape)) ≤ length bytes
  pub wrong : (rest : List ℕ) → decoded shape slot base (bytes ++ rest) ≡ Err place

-- The reader was fed these bytes under that shape, and no field of them is wrong: those that are whole stand in the snapshot.
pub record HasRead (shape : Starts) (reader : ReaderState) (bytes : List ℕ) (into : SnapshotParts) : Type 0 where
  pub sound : reader.wrong ≡ None
  pub fed : reader.fed ≡ length bytes
  pub are_bytes : (i : ℕ) → slice_index bytes i < 256
  pub front : List ℕ
  pub is : bytes ≡ front ++ reader.held
  pub begun : length reader.held < width_of reader.field
  pub may_come : MayCome shape.parts reader.field
  pub count : ℕ
  pub reach : sum (take count (field_widths shape)) ≡ length front
  pub from_here : drop count (field_widths shape) ≡ widths_from shape reader.field
  pub reads : (rest : List ℕ) → decoded shape reader.slot reader.base (front ++ rest) ≡ left_decoded shape reader.slot reader.field into (reader.base + length front) rest
