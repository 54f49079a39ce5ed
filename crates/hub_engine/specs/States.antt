-- The state that a hub's journal leads to, and what is out with the lanes.
use Rattle.std.specs.Prelude.{◌≡◌, ℕ, ◌+◌, ◌<◌, ◌≤◌, true, false, ◌==◌, if◌then◌else◌, List, [], ◌∷◌, Option, Some, None, length, reverse, count_by}
use Rattle.std.specs.Option.{is_some}
use Rattle.graph_core.specs.Graphs.{IsJob}
use Rattle.graph_core.specs.Fragments.{Piece, piece_at}
use Rattle.grape_event.specs.declared.event.Event.{Event}
use Rattle.grape_event.specs.declared.event.Event.TheVariants.{Take, Seal, Kept}
use Rattle.base_machine.specs.Machine.{System, system_of, BaseState, worker_at, is_running}
use Rattle.base_machine.specs.Fitness.{IsInForm}
use Rattle.legal_journal.specs.Past.{lane_of, has_ended}
use Rattle.legal_journal.specs.Legal.{State, state_at_end, worker_count, IsLegal}
use Rattle.hub_engine.specs.HubValues.{HubValues}

-- what the hub runs
abbrev pub machine : HubValues → System
machine h = system_of h.job

-- the state after the hub's journal
abbrev pub state_of : HubValues → State
state_of h = state_at_end (machine h) h.start h.journal.events

abbrev pub workers_of : HubValues → BaseState
workers_of h = (state_of h).workers

abbrev pub piece_of_worker : HubValues → ℕ → Piece
piece_of_worker h i = piece_at (machine h).pieces i

-- ---- what is out

-- the place of the last Take of i, where there was one
abbrev pub take_place : ℕ → List Event → Option ℕ
take_place i [] = None
take_place i (Take j k ∷ past) = if i == j then Some (length past) else take_place i past
take_place i (_ ∷ past) = take_place i past

-- the worker is out with this lane, since the Take at this place
pub record IsOut (s : State) (lane worker place : ℕ) : Type 0 where
  pub in_range : worker < worker_count s
  pub running : is_running (worker_at s.workers worker) ≡ true
  pub by_lane : lane_of worker s.past ≡ Some lane
  pub since : take_place worker s.past ≡ Some place

-- how many workers are out
abbrev pub works_out : BaseState → ℕ
works_out ws = count_by is_running ws

-- ---- what every hub keeps

-- the epoch that is sealed and not kept yet, where there is one; the journal stands newest first
abbrev pub sealed_epoch : List Event → Option ℕ
sealed_epoch [] = None
sealed_epoch (Seal e ∷ past) = Some e
sealed_epoch (Kept e ∷ past) = None
sealed_epoch (_ ∷ past) = sealed_epoch past

-- for how many events there has to be room until the journal has ended: a Give of each worker that is out, the Kept of a sealed snapshot, and a Stop
abbrev pub events_owed : State → ℕ
events_owed s = works_out s.workers + (if is_some (sealed_epoch s.past) then 1 else 0) + 1

-- The job lies within the limits, and the start is in the form of its snapshots. The journal is legal from the start, and has the room that is owed.
pub record IsHub (h : HubValues) : Type 0 where
  pub job : IsJob h.job
  pub start : IsInForm (machine h) h.start
  pub legal : IsLegal (machine h) h.start h.journal.events
  pub room : has_ended (reverse h.journal.events) ≡ false → events_owed (state_of h) ≤ h.journal.spare
