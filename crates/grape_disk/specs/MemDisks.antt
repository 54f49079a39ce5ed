-- What a disk in memory holds, and what each of its calls does.
use Rattle.std.specs.Prelude.{◌≡◌, ◌⊎◌, ℕ, ◌+◌, ◌-◌, ◌^◌, ◌==◌, ◌<◌, Bool, true, false, ◌&&◌, ◌||◌, nat_lt, nat_le, ⊤, IsTrue, List, [], ◌∷◌, length, Option, Some, None}
use Rattle.std.specs.List.{list_any}
use Rattle.grape_port.specs.Ports.{one_more}
use Rattle.grape_disk.specs.Platters.{Did, wrote, PlatterState, platter, ImageSince}

-- The bytes at the start, the writes and syncs since, each with its moment and the newest first, and how many bytes there is room
-- for.
pub record HistoryState : Type 0 where
  pub start : List ℕ
  pub done : List (ℕ × Did)
  pub room : ℕ

-- one more write or sync
abbrev pub did : ℕ → Did → HistoryState → HistoryState
did moment call h = record h { done = (moment, call) ∷ h.done }

-- The file, the numbers, from 1, of the calls that fail and of the first that does with all after it, how many calls were made
-- and how many of them failed, and how many found no memory for their record.
pub record MemDiskState : Type 0 where
  pub file : HistoryState
  pub fails : List ℕ
  pub stop : Option ℕ
  pub calls : ℕ
  pub faults : ℕ
  pub unrecorded : ℕ

-- before the first call
abbrev pub new_disk : ℕ → List ℕ → List ℕ → Option ℕ → MemDiskState
new_disk room bytes fails stop = record { file = record { start = bytes; done = []; room = room }; fails = fails; stop = stop; calls = 0; faults = 0; unrecorded = 0 }

-- what stands on the platter
abbrev pub now : MemDiskState → PlatterState
now s = platter s.file.start s.file.done

-- a call with this number is the first to stop, or comes after it
abbrev pub is_stopped : Option ℕ → ℕ → Bool
is_stopped None number = false
is_stopped (Some first) number = nat_le first number

-- the call that comes after so many fails: there is no number for it, or by its number
abbrev pub refuses : ℕ → List ℕ → Option ℕ → Bool
refuses calls fails stop = nat_le (2 ^ 64 - 1) calls || (list_any (λ n. n == calls + 1) fails || is_stopped stop (calls + 1))

-- the next call fails
abbrev pub fails_next : MemDiskState → Bool
fails_next s = refuses s.calls s.fails s.stop

-- after a call that didn't fail and wrote nothing
abbrev pub called : MemDiskState → MemDiskState
called s = record s { calls = one_more s.calls }

-- after a call that failed and wrote nothing
abbrev pub failed : MemDiskState → MemDiskState
failed s = record s { calls = one_more s.calls; faults = one_more s.faults }

-- after a write or a sync for whose record there was no memory
abbrev pub forgot : MemDiskState → MemDiskState
forgot s = record s { calls = one_more s.calls; faults = one_more s.faults; unrecorded = one_more s.unrecorded }

-- the same disk with one more write or sync, at its moment
abbrev pub with : Did → MemDiskState → MemDiskState
with call s = record s { file = did s.calls call s.file }

-- after so many calls there is a number for the next one, and room up to an end
abbrev pub has_place_after : ℕ → ℕ → ℕ → Bool
has_place_after calls room end = nat_lt calls (2 ^ 64 - 1) && nat_le end room

abbrev pub has_place : MemDiskState → ℕ → Bool
has_place s end = has_place_after s.calls s.file.room end

-- A failed write is done, and not synced. Where there is no number or no room for it, or no memory for its record, only counts
-- change.
abbrev pub FailedWrite : ℕ → List ℕ → MemDiskState → MemDiskState → Type 0
FailedWrite at bytes old new =
    (IsTrue (has_place old (at + length bytes)) × IsTrue (fails_next old) × (new ≡ failed (with (wrote at bytes) old)))
    ⊎ ((has_place old (at + length bytes) ≡ false) × (new ≡ failed old))
    ⊎ (IsTrue (has_place old (at + length bytes)) × (new ≡ forgot old))

-- each write and sync has one of the moments before so many calls
abbrev pub AreEarlier : ℕ → List (ℕ × Did) → Type 0
AreEarlier calls [] = ⊤
AreEarlier calls (call ∷ earlier) = (call.0 < calls) × AreEarlier calls earlier

-- what the disk tells
abbrev pub content_of : MemDiskState → Option (List ℕ)
content_of s = Some (now s).read

abbrev pub images_of : MemDiskState → ℕ → List ℕ → Type 0
images_of s t = ImageSince s.file.start t s.file.done

abbrev pub calls_of : MemDiskState → ℕ
calls_of s = s.calls

abbrev pub faults_of : MemDiskState → ℕ
faults_of s = s.faults

abbrev pub always : MemDiskState → Bool
always s = true
