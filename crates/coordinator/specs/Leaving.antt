-- How the coordinator leaves the lanes: all that was sealed is kept, or a snapshot waits.
use Rattle.std.specs.Prelude.{◌≡◌, ℕ, Bool, true, false, IsTrue, List, [], Option, Some, None, reverse}
use Rattle.grape_port.specs.Ports.{Rose}
use Rattle.graph_core.specs.declared.job.Job.{Job}
use Rattle.grape_event.specs.declared.event.StopCause.{StopCause}
use Rattle.grape_event.specs.declared.event.StopCause.TheVariants.{Disk}
use Rattle.token_cut.specs.Parts.{SnapshotParts}
use Rattle.recovery.specs.declared.kept_at.KeptAt.{KeptAt}
use Rattle.hub_engine.specs.HubValues.{HubValues}
use Rattle.hub_engine.specs.States.{state_of, sealed_epoch}
use Rattle.grape_hub.specs.Notes.{ground_of, ground_in, own_in, numbers_of_cuts, is_stopped_by_disk}
use Rattle.grape_hub.specs.Theorems.{WaitsAmong}
use Rattle.coordinator.specs.Keeping.{cuts_in, HasKept, HasNoted, IsGoing, KeepsOn, ComesTo}
use Rattle.coordinator.specs.declared.keeper.Keeper.{Keeper}
use Rattle.coordinator.specs.declared.leave.Leave.{Leave}
use Rattle.coordinator.specs.declared.leave.Leave.TheVariants.{AllKept, Waits}

-- A snapshot waits: it is noted as kept, or it isn't. The disk is the cause, or has stopped the run, only where its count of faults rose.
pub record IsWaiting (cause : StopCause) (waiting : ℕ) (stopped : Bool) (cuts : List SnapshotParts) (kept : List KeptAt) (faults_old faults_new : ℕ) : Type 0 where
  pub noted : HasNoted waiting cuts kept
  pub by_disk : cause ≡ Disk → Rose faults_old faults_new
  pub was_stopped : stopped ≡ true → Rose faults_old faults_new

-- What the coordinator's note says: the start, the epoch that waits to be kept, whether the disk stopped the run, and what was sealed.
pub record IsNoteOf (job : Job) (start : SnapshotParts) (waiting : Option ℕ) (stopped : Bool) (cuts : List SnapshotParts) (note : List ℕ) : Type 0 where
  pub ground : ground_in note ≡ ground_of job start
  pub among : WaitsAmong waiting cuts
  pub own : own_in note ≡ numbers_of_cuts waiting stopped cuts

module _ {D : Type 0} (content : D → Option (List ℕ)) (images : D → ℕ → List ℕ → Type 0) (moment faults : D → ℕ) (honest : D → Bool) (job : Job) (keeper_old : Keeper) (old : D) where
  -- By the coordinator's note as it leaves. When it came nothing was sealed.
  abbrev pub LeavesNote : Leave → List ℕ → Keeper → D → Type 0
  LeavesNote AllKept note keeper new =
      (start : SnapshotParts) × (cuts : List SnapshotParts) × IsNoteOf job start None false cuts note × HasKept job start cuts keeper × (faults new ≡ faults old)
      × (IsTrue (honest old) → KeepsOn content images moment job [] keeper_old old cuts keeper new)
  LeavesNote (Waits cause) note keeper new =
      (start : SnapshotParts) × (cuts : List SnapshotParts) × (waiting : ℕ) × (stopped : Bool) × IsNoteOf job start (Some waiting) stopped cuts note
      × IsWaiting cause waiting stopped cuts keeper.kept.items (faults old) (faults new) × (IsTrue (honest old) → ComesTo content images moment job [] keeper_old old cuts keeper.kept.items new)

  -- the same by the hub that the lanes leave
  abbrev pub LeavesHub : Leave → HubValues → Keeper → D → Type 0
  LeavesHub AllKept h keeper new = IsGoing h keeper × (faults new ≡ faults old) × (IsTrue (honest old) → KeepsOn content images moment job [] keeper_old old (cuts_in h) keeper new)
  LeavesHub (Waits cause) h keeper new =
      (waiting : ℕ) × (sealed_epoch (state_of h).past ≡ Some waiting) × IsWaiting cause waiting (is_stopped_by_disk (reverse h.journal.events)) (cuts_in h) keeper.kept.items (faults old) (faults new)
      × (IsTrue (honest old) → ComesTo content images moment job [] keeper_old old (cuts_in h) keeper.kept.items new)
