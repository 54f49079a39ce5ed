-- What the coordinator's visits of the hub leave of its note, and what its turns come to.
use Rattle.std.specs.Prelude.{◌≡◌, ℕ, ◌+◌, ◌%◌, ◌≤◌, Bool, true, false, IsTrue, List, [], ◌∷◌, ◌++◌, Option, Some, None, length}
use Rattle.graph_core.specs.declared.job.Job.{Job}
use Rattle.grape_event.specs.declared.event.StopCause.{StopCause}
use Rattle.grape_event.specs.declared.event.StopCause.TheVariants.{Disk}
use Rattle.token_cut.specs.Parts.{SnapshotParts}
use Rattle.token_cut.specs.Form.{IsInSlotForm}
use Rattle.recovery.specs.declared.kept_at.KeptAt.{KeptAt}
use Rattle.lane_loop.specs.declared.served.Served.{Served}
use Rattle.lane_loop.specs.declared.served.Served.TheVariants.{Ended}
use Rattle.lane_loop.specs.Turns.{StopsForMemory}
use Rattle.hub_engine.specs.HubValues.{HubValues}
use Rattle.hub_engine.specs.Calls.{ChoosesDuty}
use Rattle.hub_engine.specs.declared.work.Duty.{Duty}
use Rattle.hub_engine.specs.declared.work.Duty.TheVariants as duty
use Rattle.coordinator.specs.Shapes.{shape_of}
use Rattle.coordinator.specs.Runs.{HasUsed}
use Rattle.coordinator.specs.Keeping.{cuts_in, digest_in, HasKept, IsOver, KeepsOn, ComesTo}
use Rattle.coordinator.specs.Turns.{EndsLane, AnswersUnlessDid}
use Rattle.coordinator.specs.Leaving.{IsNoteOf, IsWaiting, LeavesHub}
use Rattle.coordinator.specs.declared.keeper.Keeper.{Keeper}
use Rattle.coordinator.specs.declared.leave.Leave.{Leave}
use Rattle.coordinator.specs.declared.leave.Leave.TheVariants.{AllKept, Waits}

-- what stands in the note before a visit: no epoch waits, or this one
abbrev pub NothingWaits : Job → List ℕ → Type 0
NothingWaits job note = (start : SnapshotParts) × (cuts : List SnapshotParts) × IsNoteOf job start None false cuts note

abbrev pub EpochWaits : Job → ℕ → List ℕ → Type 0
EpochWaits job epoch note = (start : SnapshotParts) × (cuts : List SnapshotParts) × IsNoteOf job start (Some epoch) false cuts note

-- ---- a duty

-- exactly what duty chose, and where there was no memory for it exactly a Stop
abbrev pub ChoosesDutyOrStops : HubValues → Duty → HubValues → Type 0
ChoosesDutyOrStops old (duty.Did e) new = ChoosesDuty old (duty.Did e) new
ChoosesDutyOrStops old (duty.Sealed epoch) new = ChoosesDuty old (duty.Sealed epoch) new
ChoosesDutyOrStops old duty.Nothing new = ChoosesDuty old duty.Nothing new
ChoosesDutyOrStops old duty.Ended new = ChoosesDuty old duty.Ended new
ChoosesDutyOrStops old duty.NoMemory new = StopsForMemory old new

-- The snapshot was sealed after these: it has the next epoch, may stand in its slot of the state file, and waits to be kept.
pub record IsSealedAfter (job : Job) (start : SnapshotParts) (cuts : List SnapshotParts) (epoch : ℕ) (note : List ℕ) (snapshot : SnapshotParts) : Type 0 where
  pub asked : 1 ≤ job.settings.snapshot
  pub named : snapshot.epoch ≡ epoch
  pub next : epoch ≡ start.epoch + length cuts + 1
  pub form : IsInSlotForm (shape_of job) (epoch % 2) snapshot
  pub noted : IsNoteOf job start (Some epoch) false (cuts ++ snapshot ∷ []) note

abbrev pub DutyNotes : Duty → Job → SnapshotParts → List SnapshotParts → SnapshotParts → List ℕ → SnapshotParts → Type 0
DutyNotes (duty.Sealed epoch) job start cuts before note snapshot = IsSealedAfter job start cuts epoch note snapshot
DutyNotes _ job start cuts before note snapshot = IsNoteOf job start None false cuts note × (snapshot ≡ before)

-- whatever the start and what was sealed
abbrev pub DutyLeaves : Job → Duty → List ℕ → SnapshotParts → List ℕ → SnapshotParts → Type 0
DutyLeaves job duty old before note snapshot = (start : SnapshotParts) (cuts : List SnapshotParts) → IsNoteOf job start None false cuts old → DutyNotes duty job start cuts before note snapshot

-- ---- after a put

-- the epoch that waits after its Kept, by whether the run goes on
abbrev pub waiting_after : Bool → ℕ → Option ℕ
waiting_after true epoch = None
waiting_after false epoch = Some epoch

abbrev pub KeptLeaves : Job → Bool → ℕ → List ℕ → List ℕ → Type 0
KeptLeaves job goes_on epoch old note =
    (start : SnapshotParts) (cuts : List SnapshotParts) → IsNoteOf job start (Some epoch) false cuts old → IsNoteOf job start (waiting_after goes_on epoch) false cuts note

-- a Stop is seen in the note only where it is for want of the disk
abbrev pub StopLeaves : Job → ℕ → StopCause → List ℕ → List ℕ → Type 0
StopLeaves job epoch cause old note =
    (start : SnapshotParts) (cuts : List SnapshotParts) → IsNoteOf job start (Some epoch) false cuts old →
    (stopped : Bool) × IsNoteOf job start (Some epoch) stopped cuts note × (stopped ≡ true → cause ≡ Disk)

-- ---- the coordinator's turns

-- Where all is kept lane 0 had a turn unless a duty appended an event, and did what its record says; where a snapshot waits lane 0 has ended.
abbrev pub AnswersAsLeft : Leave → Served → ℕ → Type 0
AnswersAsLeft AllKept served answer = AnswersUnlessDid served answer
AnswersAsLeft (Waits cause) served answer = (served ≡ Ended) × EndsLane answer

-- all that was sealed is kept, and the disk didn't stop the run
abbrev pub HasAllKept : Job → List ℕ → Keeper → Type 0
HasAllKept job note keeper = (start : SnapshotParts) × (cuts : List SnapshotParts) × IsNoteOf job start None false cuts note × HasKept job start cuts keeper

-- nothing was sealed yet
abbrev pub MayBegin : Job → List ℕ → Keeper → Type 0
MayBegin job note keeper = (start : SnapshotParts) × IsNoteOf job start None false [] note × HasKept job start [] keeper

-- the last snapshot was sealed after these, which are kept, and waits to be put
pub record MayPut (job : Job) (start : SnapshotParts) (cuts : List SnapshotParts) (epoch : ℕ) (note : List ℕ) (keeper : Keeper) : Type 0 where
  pub sealed : IsSealedAfter job start cuts epoch note keeper.into
  pub kept : HasKept job start cuts keeper

module _ {D : Type 0} (content : D → Option (List ℕ)) (images : D → ℕ → List ℕ → Type 0) (moment faults : D → ℕ) (honest : D → Bool) (job : Job) (keeper_old : Keeper) (old : D) where
  -- by the note of a run from this start that had sealed these
  abbrev pub LeavesFrom : SnapshotParts → List SnapshotParts → Leave → List ℕ → Keeper → D → Type 0
  LeavesFrom start cuts AllKept note keeper new =
      (more : List SnapshotParts) × IsNoteOf job start None false more note × HasKept job start more keeper × (faults new ≡ faults old)
      × (IsTrue (honest old) → KeepsOn content images moment job cuts keeper_old old more keeper new)
  LeavesFrom start cuts (Waits cause) note keeper new =
      (more : List SnapshotParts) × (waiting : ℕ) × (stopped : Bool) × IsNoteOf job start (Some waiting) stopped more note
      × IsWaiting cause waiting stopped more keeper.kept.items (faults old) (faults new) × (IsTrue (honest old) → ComesTo content images moment job cuts keeper_old old more keeper.kept.items new)

  -- whatever the start and what was sealed and kept
  abbrev pub TurnLeavesNote : Leave → List ℕ → List ℕ → Keeper → D → Type 0
  TurnLeavesNote leave before note keeper new =
      (start : SnapshotParts) (cuts : List SnapshotParts) → IsNoteOf job start None false cuts before → HasKept job start cuts keeper_old → LeavesFrom start cuts leave note keeper new

  -- whatever the start and what was sealed before the last, which waits to be put
  abbrev pub PutLeavesNote : ℕ → Leave → List ℕ → List ℕ → Keeper → D → Type 0
  PutLeavesNote epoch leave before note keeper new = (start : SnapshotParts) (cuts : List SnapshotParts) → MayPut job start cuts epoch before keeper_old → LeavesFrom start cuts leave note keeper new

-- ---- what stands at the end

module _ {D : Type 0} (content : D → Option (List ℕ)) (images : D → ℕ → List ℕ → Type 0) (moment faults : D → ℕ) (honest : D → Bool) (job : Job) where
  -- whatever stood when the lanes began
  abbrev pub Finishes : Leave → HubValues → Keeper → D → HubValues → List KeptAt → D → Type 0
  Finishes leave h keeper mid h_new kept new =
      (keeper_old : Keeper) (old : D) → LeavesHub content images moment faults honest job keeper_old old leave h keeper mid → HasUsed moment honest job old mid → digest_in keeper.store ≡ digest_in keeper_old.store →
      IsOver h_new kept (faults old) (faults new) × (IsTrue (honest old) → ComesTo content images moment job [] keeper_old old (cuts_in h_new) kept new)
