-- What a lane's seat says before and after a turn, and between its steps.
use Rattle.std.specs.Prelude.{◌≡◌, ℕ, ◌+◌, ◌-◌, ◌^◌, ◌<◌, ◌≤◌, ◌⊎◌, min, Bool, true, false, MatchBool, List, reverse}
use Rattle.graph_core.specs.declared.job.Job.{Job}
use Rattle.graph_core.specs.Parts.{FragmentLists}
use Rattle.graph_core.specs.Fragments.{fragments_of}
use Rattle.grape_event.specs.declared.event.Event.TheVariants.{Stop}
use Rattle.grape_event.specs.declared.event.StopCause.TheVariants.{Memory}
use Rattle.token_cut.specs.Parts.{SnapshotParts}
use Rattle.legal_journal.specs.Past.{has_ended}
use Rattle.hub_engine.specs.declared.work.Work.{Work}
use Rattle.hub_engine.specs.declared.work.Next.{Next}
use Rattle.hub_engine.specs.declared.work.Next.TheVariants as next
use Rattle.hub_engine.specs.HubValues.{HubValues}
use Rattle.hub_engine.specs.Calls.{Appended, Unchanged, Chooses, IsWork, IsReady, MayGive}
use Rattle.grape_hub.specs.LanedHub.{LanedHub, is_out_at, IsLanedHub}
use Rattle.grape_hub.specs.Notes.{ground_of, ground_in, note_of, HasNoWork}
use Rattle.lane_loop.specs.declared.served.Served.{Served}
use Rattle.lane_loop.specs.declared.served.Served.TheVariants.{Did, Idle, Ended, NoMemory}

-- The note's ground is that of a job which has this lane.
abbrev pub HasLane : ℕ → List ℕ → Type 0
HasLane lane note = (job : Job) × (start : SnapshotParts) × (ground_in note ≡ ground_of job start) × (lane < job.settings.lanes)

-- The note's ground is that of a job with these fragments, which the program is for, and which has this lane.
abbrev pub IsOfJob : (Job → Type 0) → List FragmentLists → ℕ → List ℕ → Type 0
IsOfJob IsFor fragments lane note =
    (job : Job) × (start : SnapshotParts) × (ground_in note ≡ ground_of job start) × (fragments ≡ fragments_of job) × IsFor job × (lane < job.settings.lanes)

-- The turn did what the record's answer of next says: 1 Took, 2 Did, 3 Idle, 4 Ended, 5 NoMemory.
abbrev pub Answers : Served → ℕ → Type 0
Answers Did answer = (answer ≡ 1) ⊎ (answer ≡ 2)
Answers Idle answer = answer ≡ 3
Answers Ended answer = answer ≡ 4
Answers NoMemory answer = answer ≡ 5

-- The count of calls before and after one to `most` of them; it stays at the greatest number of 64 bits.
abbrev pub HasCalled : ℕ → ℕ → ℕ → Type 0
HasCalled most before after = (calls : ℕ) × (1 ≤ calls) × (calls ≤ most) × (after ≡ min (before + calls) (2 ^ 64 - 1))

-- ---- between a Take and its Give

-- The lane has a Work out in this hub, whose note of it is this one. The program of the hub has so many counters for its job.
pub record IsOutIn (x : LanedHub) (counters : Job → ℕ) (lane : ℕ) (note : List ℕ) : Type 0 where
  pub stands : IsLanedHub x
  pub in_range : lane < x.hub.job.settings.lanes
  pub tells : note_of x lane ≡ note
  pub counted : x.hub.counters ≡ counters x.hub.job
  pub out : is_out_at x lane ≡ true

-- The note is that of a hub in which the lane has this Work out, ready to be evaluated.
abbrev pub HasOut : (Job → ℕ) → ℕ → List ℕ → Work → Type 0
HasOut counters lane note work = (x : LanedHub) × IsOutIn x counters lane note × IsWork x.hub lane work.fresh work × IsReady x.hub work

-- The note is that of a hub to which the lane may give this Work back.
abbrev pub HasEvaluated : (Job → ℕ) → ℕ → List ℕ → Work → Type 0
HasEvaluated counters lane note work = (x : LanedHub) × IsOutIn x counters lane note × MayGive x.hub lane work

-- The Work of a Take is out, and no Work after another answer of next.
abbrev pub IsOutWhereTook : (Job → ℕ) → ℕ → List ℕ → Next → Type 0
IsOutWhereTook counters lane note (next.Took work) = HasOut counters lane note work
IsOutWhereTook counters lane note (next.Did e) = HasNoWork note
IsOutWhereTook counters lane note next.Idle = HasNoWork note
IsOutWhereTook counters lane note next.Ended = HasNoWork note
IsOutWhereTook counters lane note next.NoMemory = HasNoWork note

-- ---- at the hub

-- there was no memory for the event
abbrev pub lacks_memory : Next → Bool
lacks_memory next.NoMemory = true
lacks_memory _ = false

-- A Stop for want of memory was appended, but for a journal that had ended, where nothing has changed but how much room is spare.
abbrev pub StopsForMemory : HubValues → HubValues → Type 0
StopsForMemory old new = MatchBool (has_ended (reverse old.journal.events)) (Unchanged old new) (Appended old (Stop Memory) new)

-- What a lane's next event leaves: exactly what next chose, and where there was no memory for it exactly a Stop.
abbrev pub ChoosesOrStops : HubValues → ℕ → Next → HubValues → Type 0
ChoosesOrStops old lane (next.Took work) new = Chooses old lane (next.Took work) new
ChoosesOrStops old lane (next.Did e) new = Chooses old lane (next.Did e) new
ChoosesOrStops old lane next.Idle new = Chooses old lane next.Idle new
ChoosesOrStops old lane next.Ended new = Chooses old lane next.Ended new
ChoosesOrStops old lane next.NoMemory new = StopsForMemory old new
