-- What a disk over a file of the system holds.
use Rattle.std.specs.Prelude.{ℕ, Bool, false, List, Option, None, ⊤}

-- how many calls were made, and how many of them failed
pub record FileDiskState : Type 0 where
  pub calls : ℕ
  pub faults : ℕ

-- what the disk tells: nothing of its bytes, and so any bytes after a crash
abbrev pub content_of : FileDiskState → Option (List ℕ)
content_of d = None

abbrev pub images_of : FileDiskState → ℕ → List ℕ → Type 0
images_of d t c = ⊤

abbrev pub calls_of : FileDiskState → ℕ
calls_of d = d.calls

abbrev pub faults_of : FileDiskState → ℕ
faults_of d = d.faults

abbrev pub never : FileDiskState → Bool
never d = false
