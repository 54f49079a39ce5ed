-- A shape and snapshots of it, for tests and worked rows.
use Rattle.std.specs.Prelude.{[], ◌∷◌}
use Rattle.token_cut.specs.declared.phase.Phase.TheVariants.{Fresh, Rest}
use Rattle.token_cut.specs.Parts.{SnapshotParts}
pub use Rattle.token_cut.specs.Worked.{six_vertices, sealed}

-- a number in each field that stands nowhere else
abbrev pub marked : SnapshotParts
marked = record {
  epoch = 100;
  parts = record { phase = Rest; values = 101 ∷ 102 ∷ 103 ∷ 104 ∷ []; mail = 105 ∷ 106 ∷ [] }
      ∷ record { phase = Fresh; values = 107 ∷ 108 ∷ 109 ∷ []; mail = 110 ∷ [] }
      ∷ record { phase = Fresh; values = 111 ∷ 112 ∷ 113 ∷ []; mail = 114 ∷ [] } ∷ [];
}
