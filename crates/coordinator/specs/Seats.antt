-- What the seats of a run say while its lanes share the hub.
use Rattle.std.specs.Prelude.{◌≡◌, ℕ, ◌+◌, ◌<◌, List, [], Option, Some, None, length, slice_index_or}
use Rattle.graph_core.specs.declared.job.Job.{Job}
use Rattle.atomic_table.specs.Seated.{TableId}
use Rattle.token_cut.specs.Parts.{SnapshotParts}
use Rattle.noted_lock.specs.declared.seat.LockSeat.{LockSeat}
use Rattle.noted_lock.specs.Sights.{seat_lock, seat_number, seat_note}
use Rattle.grape_hub.specs.Notes.{ground_of, ground_in, HasNoWork}

-- The seat k of the lock z, in a run of the job: that of lane k with no Work out, or the coordinator's, whose number is the count of the lanes.
pub record IsSeatOfRun (z : TableId) (job : Job) (k : ℕ) (seat : LockSeat) : Type 0 where
  pub lock : seat_lock seat ≡ z
  pub number : seat_number seat ≡ k
  pub ground : (start : SnapshotParts) × (ground_in (seat_note seat) ≡ ground_of job start)
  pub empty : k < job.settings.lanes → HasNoWork (seat_note seat)

-- a slot in which this seat lies
abbrev pub HoldsSeat : TableId → Job → ℕ → Option LockSeat → Type 0
HoldsSeat z job k None = ⊥
HoldsSeat z job k (Some seat) = IsSeatOfRun z job k seat

-- the note of the seat in a slot
abbrev pub note_in : Option LockSeat → List ℕ
note_in None = []
note_in (Some seat) = seat_note seat

-- the slot at a place holds a lane's seat, the last lane's at place 0
abbrev pub IsSlotAt : TableId → Job → ℕ → Option LockSeat → Type 0
IsSlotAt z job place slot = (lane : ℕ) → place + lane + 1 ≡ job.settings.lanes → HoldsSeat z job lane slot

-- the seats from 0 on, each at the place of its number
abbrev pub AreSeatsOfRun : TableId → Job → List LockSeat → Type 0
AreSeatsOfRun z job seats = (k : ℕ) (d : LockSeat) → k < length seats → IsSeatOfRun z job k (slice_index_or seats k d)

abbrev pub AreSlots : TableId → Job → List (Option LockSeat) → Type 0
AreSlots z job slots = (place : ℕ) (d : Option LockSeat) → place < length slots → IsSlotAt z job place (slice_index_or slots place d)
