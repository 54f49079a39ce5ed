-- What the bytes of a state file stand for.
use Rattle.std.specs.Prelude.{◌≡◌, ◌⊎◌, max, ℕ, ◌+◌, ◌*◌, ◌%◌, ◌≤◌, Bool, not, ◌&&◌, ◌||◌, nat_le, nat_lt, ◌==◌, if◌then◌else◌, List, [], ◌∷◌, ◌++◌, take, drop, length, replicate, slice_index, Option, Some, None, is_some, Result, Ok, Err}
use Rattle.byteorder.specs.Endian.{big_bytes}
use Rattle.grape_disk.specs.Images.{piece, written}
use Rattle.token_cut.specs.Parts.{SnapshotParts}
use Rattle.token_cut.specs.Shapes.{Starts}
use Rattle.snapshot_file.specs.Bodies.{body_bytes}
use Rattle.snapshot_file.specs.Lengths.{slot_length, file_length}
use Rattle.snapshot_file.specs.Reading.{number, decoded}

-- nothing; a file of another input, by the digest that it keeps; damaged at a place; or a snapshot
pub data FileState : Type 0 where
  nothing : FileState
  other : List ℕ → FileState
  damaged : ℕ → FileState
  last : SnapshotParts → FileState

-- a gate holds this byte where it is open, and any other where it is closed
abbrev pub OPEN : ℕ
OPEN = 0x47

abbrev pub is_open : List ℕ → Bool
is_open bytes = slice_index bytes 0 == OPEN

-- ---- the header: the file's gate, and behind it the name, the input's digest, the slot length and zeros

abbrev pub NAME : List ℕ
NAME = 0x52 ∷ 0x41 ∷ 0x50 ∷ 0x45 ∷ 0x53 ∷ 0x54 ∷ 0x31 ∷ []

abbrev pub header : Starts → List ℕ → List ℕ
header shape digest = NAME ++ digest ++ big_bytes 8 (slot_length shape) ++ replicate 16 0

-- the header, and behind it the closed gate of the first slot
abbrev pub front_bytes : ℕ → List ℕ → List ℕ
front_bytes size digest = NAME ++ digest ++ big_bytes 8 size ++ replicate 16 0 ++ 0 ∷ []

-- the place of the first byte that isn't the expected one, where bytes stand at that place
abbrev pub first_wrong : List ℕ → ℕ → List ℕ → Option ℕ
first_wrong [] at bytes = None
first_wrong (x ∷ expected) at bytes = if slice_index bytes 0 == x then first_wrong expected (at + 1) (drop 1 bytes) else Some at

abbrev pub damaged_if : Option ℕ → Option FileState
damaged_if None = None
damaged_if (Some place) = Some (damaged place)

-- what a file of that size stands for by the first 64 bytes alone
abbrev pub by_header : Starts → List ℕ → ℕ → List ℕ → Option FileState
by_header shape digest size front =
    if nat_lt size 64 || not (is_open front) then Some nothing
    else if is_some (first_wrong digest 8 (drop 8 front)) then Some (other (piece 8 32 front))
    else if nat_lt size (file_length shape) then Some nothing
    else damaged_if (first_wrong (header shape digest) 1 (drop 1 front))

-- ---- the slots

abbrev pub slot_place : Starts → ℕ → ℕ
slot_place shape k = 64 + k * slot_length shape

-- a gate and a body
abbrev pub slot : Starts → ℕ → List ℕ → List ℕ
slot shape k file = piece (slot_place shape k) (slot_length shape) file

abbrev pub epoch_of : List ℕ → ℕ
epoch_of bytes = number (drop 1 bytes)

abbrev pub state_of : Result SnapshotParts ℕ → FileState
state_of (Ok snapshot) = last snapshot
state_of (Err place) = damaged place

abbrev pub by_slot : Starts → ℕ → List ℕ → FileState
by_slot shape k bytes = state_of (decoded shape k (slot_place shape k + 1) (drop 1 bytes))

-- whether a file stands for slot 0: it is open, and slot 1 is closed or has no larger epoch
abbrev pub is_first_newest : List ℕ → List ℕ → Bool
is_first_newest zero one = is_open zero && (not (is_open one) || nat_le (epoch_of one) (epoch_of zero))

-- the open slot, and of two the one with the larger epoch
abbrev pub by_slots : Starts → List ℕ → List ℕ → FileState
by_slots shape zero one =
    if is_first_newest zero one then by_slot shape 0 zero
    else if is_open one then by_slot shape 1 one
    else nothing

abbrev pub or_by_slots : Option FileState → FileState → FileState
or_by_slots None state = state
or_by_slots (Some state) _ = state

-- what a file stands for, for the job of that shape and that digest
abbrev pub file_state : Starts → List ℕ → List ℕ → FileState
file_state shape digest file =
    or_by_slots (by_header shape digest (length file) (take 64 file)) (by_slots shape (slot shape 0 file) (slot shape 1 file))

-- ---- the state that a store goes on from

-- nothing was kept yet, or the last one kept has that epoch
abbrev pub HasEpoch : ℕ → FileState → Type 0
HasEpoch n nothing = n ≡ 0
HasEpoch n (last snapshot) = n ≡ snapshot.epoch
HasEpoch n _ = ⊥

-- the header is whole, and the slots have that epoch
pub record IsKept (shape : Starts) (digest : List ℕ) (epoch : ℕ) (file : List ℕ) : Type 0 where
  pub whole : by_header shape digest (length file) (take 64 file) ≡ None
  pub kept : HasEpoch epoch (by_slots shape (slot shape 0 file) (slot shape 1 file))

-- what a crash in a put may leave: a file that stands for what it stood for before, or for the snapshot, and is no longer than it was or has to be
pub record KeepsOrTakes (shape : Starts) (digest : List ℕ) (snapshot : SnapshotParts) (file c : List ℕ) : Type 0 where
  pub state : (file_state shape digest c ≡ file_state shape digest file) ⊎ (file_state shape digest c ≡ last snapshot)
  pub size : length c ≤ max (length file) (file_length shape)

-- the file once a snapshot is kept: an open gate and the body stand in the slot of its epoch, and all else is as it was
abbrev pub kept_file : Starts → SnapshotParts → List ℕ → List ℕ
kept_file shape snapshot file = written (slot_place shape (snapshot.epoch % 2)) (OPEN ∷ body_bytes snapshot) file

-- after a put: the file stands for the snapshot
pub record Takes (shape : Starts) (digest : List ℕ) (snapshot : SnapshotParts) (file : List ℕ) : Type 0 where
  pub state : file_state shape digest file ≡ last snapshot
  pub kept : IsKept shape digest snapshot.epoch file

-- what a crash in a creation may leave: a file that stands for nothing, and is no longer than it was or has to be
pub record StaysNothing (shape : Starts) (digest file c : List ℕ) : Type 0 where
  pub state : file_state shape digest c ≡ nothing
  pub size : length c ≤ max (length file) (file_length shape)
