-- A file in memory, by the writes and syncs that were made of it.
use Rattle.std.specs.Prelude.{◌≡◌, ◌⊎◌, ℕ, ◌+◌, ◌-◌, ◌<◌, ◌≤◌, Bool, true, false, List, [], ◌∷◌, ◌++◌, length, take, drop, replicate, slice_index, slice_index_or}
use Rattle.grape_disk.specs.Images.{written}

-- what a call did: some bytes at a place, or a sync
pub data Did : Type 0 where
  wrote : ℕ → List ℕ → Did
  synced : Did

-- the stable bytes, what a read gives, and of each place of that whether it is pending
pub record PlatterState : Type 0 where
  pub stable : List ℕ
  pub read : List ℕ
  pub pending : List Bool

-- nothing is pending
abbrev pub at_rest : List ℕ → PlatterState
at_rest file = record { stable = file; read = file; pending = replicate (length file) false }

-- n places from one on are pending, and so is a gap before them
abbrev pub marked : ℕ → ℕ → List Bool → List Bool
marked at n pending = take at pending ++ replicate (at - length pending) true ++ replicate n true ++ drop (at + n) pending

-- what a write or a sync makes of it
abbrev pub after : Did → PlatterState → PlatterState
after (wrote at bytes) p = record { stable = p.stable; read = written at bytes p.read; pending = marked at (length bytes) p.pending }
after synced p = at_rest p.read

-- the bytes at the start, all of them stable, and then a call at each of these moments, the newest first
abbrev pub platter : List ℕ → List (ℕ × Did) → PlatterState
platter start [] = at_rest start
platter start (call ∷ earlier) = after call.1 (platter start earlier)

-- A crash leaves any length from the stable one to that of a read, any byte at a pending place, and elsewhere the stable one.
pub record IsImage (p : PlatterState) (c : List ℕ) : Type 0 where
  pub no_shorter : length p.stable ≤ length c
  pub no_longer : length c ≤ length p.read
  pub elsewhere : (i : ℕ) → i < length c → slice_index_or p.pending i true ≡ false → slice_index c i ≡ slice_index p.stable i

-- an image of a moment from t on that a later call ended
abbrev pub WasImage : List ℕ → ℕ → List (ℕ × Did) → List ℕ → Type 0
WasImage start t [] c = ⊥
WasImage start t (call ∷ earlier) c = ((t ≤ call.0) × IsImage (platter start earlier) c) ⊎ WasImage start t earlier c

-- an image of some moment from t on
abbrev pub ImageSince : List ℕ → ℕ → List (ℕ × Did) → List ℕ → Type 0
ImageSince start t done c = IsImage (platter start done) c ⊎ WasImage start t done c
