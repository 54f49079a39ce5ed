-- What a call does to the bytes of a source or a sink. A source or sink of the outside world tells no bytes.
use Rattle.std.specs.Prelude.{◌≡◌, ℕ, ◌+◌, ◌-◌, ◌^◌, ◌<◌, min, ◌⊎◌, List, [], ◌++◌, Option, Some, None, length, ⊤}

-- A count, one higher. It is kept in 64 bits, and its last number stands for any more.
abbrev pub one_more : ℕ → ℕ
one_more n = min (n + 1) (2 ^ 64 - 1)

-- A count of faults rose. It is kept in 64 bits, and so a count at its last number may stand for any more.
abbrev pub Rose : ℕ → ℕ → Type 0
Rose before after = (before < after) ⊎ (after ≡ 2 ^ 64 - 1)

-- the bytes stood at the front of what was left to read, and the rest is left
abbrev pub TakesFront : Option (List ℕ) → List ℕ → Option (List ℕ) → Type 0
TakesFront None bytes after = after ≡ None
TakesFront (Some before) bytes after = (rest : List ℕ) × (before ≡ bytes ++ rest) × (after ≡ Some rest)

-- nothing is left, where the source tells it
abbrev pub IsAtEnd : Option (List ℕ) → Type 0
IsAtEnd None = ⊤
IsAtEnd (Some left) = left ≡ []

-- the bytes were added behind what was written
abbrev pub Appends : Option (List ℕ) → List ℕ → Option (List ℕ) → Type 0
Appends None bytes after = after ≡ None
Appends (Some before) bytes after = after ≡ Some (before ++ bytes)

-- a front of the bytes, and no more, was added behind what was written
abbrev pub AppendsFront : Option (List ℕ) → List ℕ → Option (List ℕ) → Type 0
AppendsFront before bytes after = (front rest : List ℕ) × (bytes ≡ front ++ rest) × Appends before front after

-- all that was written is flushed, where both are told
abbrev pub IsAllFlushed : Option (List ℕ) → Option ℕ → Type 0
IsAllFlushed (Some bytes) (Some flushed) = flushed ≡ length bytes
IsAllFlushed written flushed = ⊤
