-- A snapshot as the bytes of a body.
use Rattle.std.specs.Prelude.{◌≡◌, ℕ, List, ◌∷◌, ◌++◌}
use Rattle.std.specs.List.{flat_map}
use Rattle.byteorder.specs.Endian.{big_bytes}
use Rattle.token_cut.specs.declared.phase.Phase.{Phase}
use Rattle.token_cut.specs.declared.phase.Phase.TheVariants.{Fresh, Rest}
use Rattle.token_cut.specs.Form.{IsInSlotForm}
use Rattle.token_cut.specs.Parts.{PartValues, SnapshotParts}
use Rattle.token_cut.specs.Shapes.{Starts}

abbrev pub phase_byte : Phase → ℕ
phase_byte Fresh = 0
phase_byte Rest = 1

abbrev pub number_bytes : List ℕ → List ℕ
number_bytes ns = flat_map (big_bytes 8) ns

abbrev pub part_bytes : PartValues → List ℕ
part_bytes part = phase_byte part.phase ∷ number_bytes part.values ++ number_bytes part.mail

abbrev pub body_bytes : SnapshotParts → List ℕ
body_bytes snapshot = big_bytes 8 snapshot.epoch ++ flat_map part_bytes snapshot.parts

-- the body is that snapshot's, and the slot may hold it
pub record Form (shape : Starts) (slot : ℕ) (body : List ℕ) (snapshot : SnapshotParts) : Type 0 where
  pub bytes : body ≡ body_bytes snapshot
  pub in_form : IsInSlotForm shape slot snapshot
