-- What a run under the lock begins with, and a lane that may take a turn.
use Rattle.std.specs.Prelude.{◌≡◌, ℕ, List, []}
use Rattle.graph_core.specs.declared.job.Job.{Job}
use Rattle.graph_core.specs.Parts.{FragmentLists}
use Rattle.graph_core.specs.Queries.{equations_of}
use Rattle.token_cut.specs.Parts.{PartValues}
use Rattle.base_machine.specs.Machine.{fresh_part}
use Rattle.atomic_table.specs.Seated.{TableId}
use Rattle.noted_lock.specs.declared.seat.LockSeat.{LockSeat}
use Rattle.noted_lock.specs.Sights.{seat_lock, seat_number, seat_note}
use Rattle.grape_hub.specs.Notes.{HasNoWork}
use Rattle.lane_loop.specs.Turns.{IsOfJob}

-- the fresh part of a fragment
abbrev pub part_of : Job → FragmentLists → PartValues
part_of job part = fresh_part (equations_of job) (record { owned = part.owned; mirrors = part.mirrors; routes = [] })

-- A seat of this lock with which the lane may take a turn.
pub record MayTakeTurn (lock : TableId) (IsFor : Job → Type 0) (fragments : List FragmentLists) (lane : ℕ) (seat : LockSeat) : Type 0 where
  pub of_lock : seat_lock seat ≡ lock
  pub numbered : seat_number seat ≡ lane
  pub of_job : IsOfJob IsFor fragments lane (seat_note seat)
  pub empty : HasNoWork (seat_note seat)
