-- A hub with what it keeps of its lanes.
use Rattle.std.specs.Prelude.{◌≡◌, ℕ, ◌-◌, ◌+◌, ◌^◌, ◌≤◌, min, ◌==◌, Bool, true, false, List, replicate, length, reverse, slice_index_or, slice_set}
use Rattle.legal_journal.specs.Past.{has_ended}
use Rattle.legal_journal.specs.Legal.{has_work_out}
use Rattle.hub_engine.specs.HubValues.{HubValues}
use Rattle.hub_engine.specs.States.{state_of, IsHub}
use Rattle.hub_engine.specs.declared.work.Next.{Next}
use Rattle.hub_engine.specs.declared.work.Next.TheVariants.{Took, Did, Idle, Ended, NoMemory}
use Rattle.grape_hub.specs.declared.lane_record.LaneRecord.{LaneRecord}

-- the hub, and for each lane its record
pub record LanedHub : Type 0 where
  pub hub : HubValues
  pub lanes : List LaneRecord

-- of a lane for which next wasn't called yet
abbrev pub no_record : LaneRecord
no_record = record { calls = 0; answer = 0; length = 0; out = false }

abbrev pub lane_at : LanedHub → ℕ → LaneRecord
lane_at x k = slice_index_or x.lanes k no_record

-- a Work of this lane is out
abbrev pub is_out_at : LanedHub → ℕ → Bool
is_out_at x k = (lane_at x k).out

abbrev pub new_lanes : ℕ → List LaneRecord
new_lanes count = replicate count no_record

-- the number of an answer of next
abbrev pub answer_of : Next → ℕ
answer_of (Took work) = 1
answer_of (Did e) = 2
answer_of Idle = 3
answer_of Ended = 4
answer_of NoMemory = 5

-- a record after one call more, with its answer and the length of the journal then
abbrev pub after_answer : ℕ → ℕ → LaneRecord → LaneRecord
after_answer answer long r = record { calls = min (r.calls + 1) (2 ^ 64 - 1); answer = answer; length = long; out = answer == 1 }

-- a record after a Work was given back
abbrev pub after_give : LaneRecord → LaneRecord
after_give r = record { calls = r.calls; answer = r.answer; length = r.length; out = false }

-- the lanes after such a call of one of them
abbrev pub lanes_after_answer : LanedHub → ℕ → Next → HubValues → List LaneRecord
lanes_after_answer x lane answer new = slice_set x.lanes lane (after_answer (answer_of answer) (length new.journal.events) (lane_at x lane))

abbrev pub lanes_after_give : LanedHub → ℕ → List LaneRecord
lanes_after_give x lane = slice_set x.lanes lane (after_give (lane_at x lane))

-- There is a record of each lane. A Work is out by it only where the journal says so, and `next` was called for it; until the journal has ended it is out where the journal says so.
pub record AreLanes (x : LanedHub) : Type 0 where
  pub count : length x.lanes ≡ x.hub.job.settings.lanes
  pub out : (k : ℕ) → is_out_at x k ≡ true → (has_work_out (state_of x.hub) k ≡ true) × (1 ≤ (lane_at x k).calls)
  pub all : has_ended (reverse x.hub.journal.events) ≡ false → (k : ℕ) → has_work_out (state_of x.hub) k ≡ true → is_out_at x k ≡ true

-- what holds of every hub
abbrev pub IsLanedHub : LanedHub → Type 0
IsLanedHub x = IsHub x.hub × AreLanes x
