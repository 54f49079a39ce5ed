-- A snapshot as contracts see it: for each worker its phase, the values of all its places, and for each of its mirrors the meet of the mail that waits, NOTHING where none does.
use Rattle.std.specs.Prelude.{ℕ, List, [], slice_index_or}
use Rattle.token_cut.specs.declared.phase.Phase.{Phase}
use Rattle.token_cut.specs.declared.phase.Phase.TheVariants.{Rest}

pub record PartValues : Type 0 where
  pub phase : Phase
  pub values : List ℕ
  pub mail : List ℕ

pub record SnapshotParts : Type 0 where
  pub epoch : ℕ
  pub parts : List PartValues

-- stands for a part past the last
abbrev pub no_part : PartValues
no_part = record { phase = Rest; values = []; mail = [] }

-- the part of worker k
abbrev pub part_at : ℕ → List PartValues → PartValues
part_at k parts = slice_index_or parts k no_part
