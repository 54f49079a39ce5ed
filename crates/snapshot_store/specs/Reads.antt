-- What is read of a file piece by piece, and that reading changes nothing.
use Rattle.std.specs.Prelude.{◌≡◌, ◌⊎◌, ℕ, ◌+◌, ◌≤◌, Bool, IsTrue, List, [], ◌∷◌, length, Option, Some}
use Rattle.grape_disk.specs.Images.{piece, Same, Quiet}

-- a place, and the bytes that were read from there on
abbrev pub Read : Type 0
Read = ℕ × List ℕ

-- the bytes that were read stand in the file
abbrev pub Agree : List Read → List ℕ → Type 0
Agree [] file = Unit {0}
Agree (read ∷ reads) file = (piece read.0 (length read.1) file ≡ read.1) × Agree reads file

-- no byte of the others is one of these
abbrev pub AreApart : ℕ → ℕ → List Read → Type 0
AreApart at end [] = Unit {0}
AreApart at end (read ∷ reads) = ((end ≤ read.0) ⊎ (read.0 + length read.1 ≤ at)) × AreApart at end reads

-- they lie between two places, and no byte is read twice
abbrev pub IsOnce : ℕ → ℕ → List Read → Type 0
IsOnce from to [] = Unit {0}
IsOnce from to (read ∷ reads) = (from ≤ read.0) × (read.0 + length read.1 ≤ to) × AreApart read.0 (read.0 + length read.1) reads × IsOnce from to reads

-- What was read between two places tells P of the file, whatever stands elsewhere. Where the disk tells a content, that is the file.
pub record Tells (told : Option (List ℕ)) (from to : ℕ) (P : List ℕ → Type 0) : Type 0 where
  pub reads : List Read
  pub given : (file : List ℕ) → told ≡ Some file → Agree reads file
  pub once : IsOnce from to reads
  pub enough : (file : List ℕ) → to ≤ length file → Agree reads file → P file

module _ {D : Type 0} (content : D → Option (List ℕ)) (images : D → ℕ → List ℕ → Type 0) (moment : D → ℕ) (honest : D → Bool) where
  -- the calls between wrote nothing
  pub record Unwritten (old new : D) : Type 0 where
    pub reads : content new ≡ content old
    pub crash : IsTrue (honest old) → Same content images moment old new × Quiet images moment old new
    pub later : moment old ≤ moment new
    pub as_honest : honest new ≡ honest old
