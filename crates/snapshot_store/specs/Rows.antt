-- Files byte by byte, and what they stand for.
use Rattle.std.specs.Prelude.{ℕ, List, [], ◌∷◌, ◌++◌, replicate}
use Rattle.byteorder.specs.Endian.{big_bytes}
use Rattle.value_order.specs.declared.order.Order.TheVariants.{Least}
use Rattle.token_cut.specs.declared.phase.Phase.TheVariants.{Rest}
use Rattle.token_cut.specs.Parts.{SnapshotParts}
use Rattle.token_cut.specs.Shapes.{Starts}
use Rattle.snapshot_file.specs.Bodies.{body_bytes}
use Rattle.snapshot_file.specs.Examples.{sealed}
use Rattle.snapshot_store.specs.State.{OPEN, NAME}

-- any 32 bytes in the place of the input's digest
abbrev pub digest : List ℕ
digest = replicate 32 0xA5

-- one vertex, which is the source
abbrev pub one_vertex : Starts
one_vertex = record { order = Least; parts = record { owned = 0 ∷ []; mirrors = [] } ∷ [] }

-- its snapshot with an epoch
abbrev pub kept : ℕ → SnapshotParts
kept epoch = record { epoch = epoch; parts = record { phase = Rest; values = 0 ∷ []; mail = [] } ∷ [] }

abbrev pub hundred_bytes : List ℕ
hundred_bytes =
    0x47 ∷ 0x52 ∷ 0x41 ∷ 0x50 ∷ 0x45 ∷ 0x53 ∷ 0x54 ∷ 0x31 ∷ []
    ++ digest
    ++ 0 ∷ 0 ∷ 0 ∷ 0 ∷ 0 ∷ 0 ∷ 0 ∷ 0x12 ∷ []
    ++ replicate 16 0
    ++ replicate 18 0
    ++ 0x47 ∷ 0 ∷ 0 ∷ 0 ∷ 0 ∷ 0 ∷ 0 ∷ 0 ∷ 1 ∷ 1 ∷ 0 ∷ 0 ∷ 0 ∷ 0 ∷ 0 ∷ 0 ∷ 0 ∷ 0 ∷ []

-- the same, and behind it what no file has
abbrev pub longer_file : List ℕ
longer_file = hundred_bytes ++ 7 ∷ 7 ∷ 7 ∷ []

-- the second snapshot in slot 0, and the first one still in slot 1
abbrev pub two_open : List ℕ
two_open =
    0x47 ∷ 0x52 ∷ 0x41 ∷ 0x50 ∷ 0x45 ∷ 0x53 ∷ 0x54 ∷ 0x31 ∷ []
    ++ digest
    ++ 0 ∷ 0 ∷ 0 ∷ 0 ∷ 0 ∷ 0 ∷ 0 ∷ 0x12 ∷ []
    ++ replicate 16 0
    ++ 0x47 ∷ 0 ∷ 0 ∷ 0 ∷ 0 ∷ 0 ∷ 0 ∷ 0 ∷ 2 ∷ 1 ∷ 0 ∷ 0 ∷ 0 ∷ 0 ∷ 0 ∷ 0 ∷ 0 ∷ 0 ∷ []
    ++ 0x47 ∷ 0 ∷ 0 ∷ 0 ∷ 0 ∷ 0 ∷ 0 ∷ 0 ∷ 1 ∷ 1 ∷ 0 ∷ 0 ∷ 0 ∷ 0 ∷ 0 ∷ 0 ∷ 0 ∷ 0 ∷ []

abbrev pub sealed_file : List ℕ
sealed_file = OPEN ∷ NAME ++ digest ++ big_bytes 8 124 ++ replicate 16 0 ++ replicate 124 0 ++ OPEN ∷ body_bytes sealed

-- the first phase byte is 9
abbrev pub damaged_file : List ℕ
damaged_file = OPEN ∷ NAME ++ digest ++ big_bytes 8 124 ++ replicate 16 0 ++ replicate 124 0 ++ OPEN ∷ big_bytes 8 1 ++ 9 ∷ replicate 114 0
