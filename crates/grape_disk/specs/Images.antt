-- What the calls of a disk do to the bytes that a read gives, and to those that a crash may leave.
use Rattle.std.specs.Prelude.{◌≡◌, ◌⊎◌, ℕ, ◌+◌, ◌-◌, ◌^◌, ◌<◌, ◌≤◌, max, Bool, List, ◌++◌, length, take, drop, replicate, slice_index, Option, Some, None, Result, IsErr, OnOk, OnErr}
use Rattle.grape_port.specs.Ports.{one_more, Rose}

-- the n bytes from a place on, or what is there of them
abbrev pub piece : ℕ → ℕ → List ℕ → List ℕ
piece at n file = take n (drop at file)

-- the file with these bytes at this place; a gap before them reads as zeros
abbrev pub written : ℕ → List ℕ → List ℕ → List ℕ
written at bytes file = take at file ++ replicate (at - length file) 0 ++ bytes ++ drop (at + length bytes) file

-- the same of a content that may not be told
abbrev pub written_if : ℕ → List ℕ → Option (List ℕ) → Option (List ℕ)
written_if at bytes None = None
written_if at bytes (Some file) = Some (written at bytes file)

-- After a write of n bytes at a place, not synced: any length between the old one and the end of the write, and any byte in the
-- range and past the old end.
pub record Torn (at n : ℕ) (old new : List ℕ) : Type 0 where
  pub no_shorter : length old ≤ length new
  pub no_longer : length new ≤ max (length old) (at + n)
  pub before : (i : ℕ) → i < length old → i < at → slice_index new i ≡ slice_index old i
  pub behind : (i : ℕ) → i < length old → at + n ≤ i → slice_index new i ≡ slice_index old i

module _ {D : Type 0} (content : D → Option (List ℕ)) (images : D → ℕ → List ℕ → Type 0) (moment : D → ℕ) where
  -- a read gives these bytes, and nothing is pending: a crash leaves them
  pub record AtRest (disk : D) (file : List ℕ) : Type 0 where
    pub told : content disk ≡ Some file
    pub only : (c : List ℕ) → images disk (moment disk) c → c ≡ file

  -- a read gives what it gave, and a crash leaves what it might have left
  pub record Same (old new : D) : Type 0 where
    pub reads : content new ≡ content old
    pub now : (c : List ℕ) → images new (moment new) c → images old (moment old) c
    pub all : (c : List ℕ) → images old (moment old) c → images new (moment new) c

module _ {D : Type 0} (images : D → ℕ → List ℕ → Type 0) (moment : D → ℕ) where
  -- since any moment a crash might have left what it might have left before, and nothing else
  pub record Quiet (old new : D) : Type 0 where
    pub since : (t : ℕ) (c : List ℕ) → t ≤ moment old → images new t c → images old t c
    pub past : (t : ℕ) (c : List ℕ) → t ≤ moment old → images old t c → images new t c

  -- a crash at a moment of a write, or after it, leaves an image from before it with any bytes in the range
  pub record Writes (at n : ℕ) (old new : D) : Type 0 where
    pub now : (c : List ℕ) → images new (moment new) c → (d : List ℕ) × images old (moment old) d × Torn at n d c
    pub since : (t : ℕ) (c : List ℕ) → t ≤ moment old → images new t c → images old t c ⊎ ((d : List ℕ) × images old (moment old) d × Torn at n d c)
    pub past : (t : ℕ) (c : List ℕ) → t ≤ moment old → images old t c → images new t c

  -- of the moments since old, a crash at one of them leaves only what has P
  pub record Leaves (old new : D) (P : List ℕ → Type 0) : Type 0 where
    pub later : moment old ≤ moment new
    pub each : (t : ℕ) (c : List ℕ) → t ≤ moment old → images new t c → images old t c ⊎ P c

-- What each call says of its number, of failing and of the disk's honesty. An Ok call leaves the count of faults.
pub record Counts {D T E : Type 0} (moment faults : D → ℕ) (honest : D → Bool) (result : Result T E) (old new : D) : Type 0 where
  pub next : moment new ≡ one_more (moment old)
  pub later : moment old ≤ moment new
  pub ok : OnOk result (faults new ≡ faults old)
  pub err : OnErr result (Rose (faults old) (faults new))
  pub faults_stay : faults old ≤ faults new
  pub as_honest : honest new ≡ honest old
  pub full : moment old ≡ 2 ^ 64 - 1 → IsErr result
