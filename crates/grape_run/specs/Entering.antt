-- What a run entered with, and how it ended.
use Rattle.std.specs.Prelude.{◌≡◌, ℕ, ◌≤◌, List, [], Bool, IsTrue, Option, Some, None, Result, Ok, Err, ⊤}
use Rattle.grape_port.specs.Ports.{Rose}
use Rattle.graph_core.specs.declared.job.Job.{Job}
use Rattle.graph_core.specs.Parts.{FragmentLists}
use Rattle.grape_event.specs.declared.event.Event.TheVariants.{End, Stop}
use Rattle.grape_event.specs.declared.event.StopCause.TheVariants.{Disk, Memory}
use Rattle.token_cut.specs.Parts.{SnapshotParts}
use Rattle.base_machine.specs.Machine.{system_of}
use Rattle.base_machine.specs.Fitness.{IsInForm}
use Rattle.grape_disk.specs.Images.{AtRest}
use Rattle.snapshot_store.specs.Stores.{StoreValue}
use Rattle.snapshot_store.specs.declared.fault.StoreFault.{StoreFault}
use Rattle.snapshot_store.specs.declared.fault.StoreFault.TheVariants as store
use Rattle.recovery.specs.Crashes.{Survives, MayKeep}
use Rattle.recovery.specs.Entries.{HasStore}
use Rattle.recovery.specs.declared.entry.Entry.{Entry}
use Rattle.recovery.specs.declared.entry.EntryFault.{EntryFault}
use Rattle.recovery.specs.declared.entry.EntryFault.TheVariants as entry
use Rattle.coordinator.specs.Shapes.{shape_of}
use Rattle.coordinator.specs.Runs.{IsStoryOf, EndsBy, AreLocalsOf}
use Rattle.coordinator.specs.declared.ran.Ran.{Ran}
use Rattle.coordinator.specs.declared.ran.Ran.TheVariants as ran
use Rattle.coordinator.specs.declared.story.Story.{Story}
use Rattle.grape_run.specs.Commands.{StartsBy, IsFreeFor, RefusesFor, IsStoryFor, KeepsState}
use Rattle.grape_run.specs.declared.status.Status.{Status}
use Rattle.grape_run.specs.declared.status.Status.TheVariants as status
use Rattle.grape_run.specs.declared.beginning.Beginning.{Beginning}
use Rattle.grape_run.specs.declared.beginning.Beginning.TheVariants.{Fresh}

-- a status of a command that had read a job and wrote nothing of its answer
abbrev pub IsUnanswered : Status → Type 0
IsUnanswered status.DiskFault = ⊤
IsUnanswered (status.StateThere size) = ⊤
IsUnanswered (status.OtherJob kept here) = ⊤
IsUnanswered (status.BadState place) = ⊤
IsUnanswered status.NoMemory = ⊤
IsUnanswered _ = ⊥

-- What a status says of the count of the disk's faults: it rose where the disk failed, and is as it was where the run was done or the state file refused. Want of memory says nothing of it.
abbrev pub CountsFor : Status → ℕ → ℕ → Type 0
CountsFor status.Done before after = after ≡ before
CountsFor status.WriteFault before after = after ≡ before
CountsFor status.DiskFault before after = Rose before after
CountsFor (status.StateThere size) before after = after ≡ before
CountsFor (status.OtherJob kept here) before after = after ≡ before
CountsFor (status.BadState place) before after = after ≡ before
CountsFor _ before after = ⊤

-- ---- the entry

-- the status of a command whose run can't begin for that
abbrev pub store_status : StoreFault → Status
store_status store.Disk = status.DiskFault
store_status (store.Other kept here) = status.OtherJob kept here
store_status (store.Damaged place) = status.BadState place
store_status store.NoMemory = status.NoMemory

abbrev pub entry_status : EntryFault → Status
entry_status (entry.Store fault) = store_status fault
entry_status (entry.StateThere size) = status.StateThere size

-- the same of an entry, which is made without a fault
abbrev pub EntryCounts : Result Entry Status → ℕ → ℕ → Type 0
EntryCounts (Ok made) before after = after ≡ before
EntryCounts (Err s) before after = CountsFor s before after

module _ {D : Type 0} (content : D → Option (List ℕ)) (images : D → ℕ → List ℕ → Type 0) (moment : D → ℕ) (honest : D → Bool) where
  -- A run may begin from this start, which is that of the command, and keep its snapshots by this store.
  pub record HasEntered (b : Beginning) (job : Job) (digest : List ℕ) (start : SnapshotParts) (store : Option StoreValue) (old new : D) : Type 0 where
    pub starts : StartsBy b job digest (content old) start
    pub free : IsFreeFor b job (content old)
    pub form : IsInForm (system_of job) start
    pub has_store : 1 ≤ job.settings.snapshot → HasStore digest start.epoch store
    pub ready : 1 ≤ job.settings.snapshot → IsTrue (honest old) → (file : List ℕ) → AtRest content images moment old file → MayKeep content images moment (shape_of job) digest [] [] file start.epoch old new

  -- it entered, or the state file was refused
  abbrev pub EntersOr : Beginning → Job → List ℕ → Result Entry Status → D → D → Type 0
  EntersOr b job digest (Ok made) old new = HasEntered b job digest made.start made.store old new
  EntersOr b job digest (Err s) old new = IsUnanswered s × RefusesFor b job digest (content old) s

  -- What an entry did: a crash in it leaves what opens as before, and without snapshots the disk isn't used.
  pub record IsEntryFor (b : Beginning) (job : Job) (digest : List ℕ) (result : Result Entry Status) (old new : D) : Type 0 where
    pub enters : EntersOr b job digest result old new
    pub crash : IsTrue (honest old) → (file : List ℕ) → AtRest content images moment old file → Survives images moment (shape_of job) digest [] [] file old new
    pub unused : b ≡ Fresh → job.settings.snapshot ≡ 0 → new ≡ old

-- ---- the run

abbrev pub story_of : Ran → Option Story
story_of (ran.Done locals story) = Some story
story_of (ran.Stopped cause story) = Some story
story_of ran.NoMemory = None

-- the status of a run that ended so, where its answer can be made
abbrev pub status_after : Result Ran Status → Status
status_after (Ok (ran.Done locals story)) = status.Done
status_after (Ok (ran.Stopped Disk story)) = status.DiskFault
status_after (Ok (ran.Stopped Memory story)) = status.NoMemory
status_after (Ok ran.NoMemory) = status.NoMemory
status_after (Err s) = s

-- the count of the disk's faults, by how a run ended: it rose where the disk stopped it, and is as it was where nothing did
abbrev pub RanCounts : Ran → ℕ → ℕ → Type 0
RanCounts r before after = CountsFor (status_after (Ok r)) before after

-- the story of a run has a legal journal
abbrev pub IsLegalRan : Job → Ran → Type 0
IsLegalRan job (ran.Done locals story) = IsStoryOf job story.start story
IsLegalRan job (ran.Stopped cause story) = IsStoryOf job story.start story
IsLegalRan job ran.NoMemory = ⊤

-- how a run ended
abbrev pub HasEnded : Job → List FragmentLists → Ran → Type 0
HasEnded job fragments (ran.Done locals story) = EndsBy End story.journal.events × AreLocalsOf job fragments story locals.items
HasEnded job fragments (ran.Stopped cause story) = EndsBy (Stop cause) story.journal.events
HasEnded job fragments ran.NoMemory = ⊤

-- the story, where there is one, is of a run of the job from where the command starts it
abbrev pub IsStoryIf : Beginning → Job → List ℕ → Option (List ℕ) → Option Story → Type 0
IsStoryIf b job digest content None = ⊤
IsStoryIf b job digest content (Some story) = IsStoryFor b job digest content story

module _ {D : Type 0} (content : D → Option (List ℕ)) (images : D → ℕ → List ℕ → Type 0) (moment : D → ℕ) (honest : D → Bool) where
  -- The run of a command: it ended, with its story, or could not enter. In any case what a crash leaves is that.
  abbrev pub HasTried : Beginning → Job → List ℕ → List FragmentLists → Result Ran Status → D → D → Type 0
  HasTried b job digest fragments (Ok r) old new =
      IsStoryIf b job digest (content old) (story_of r) × HasEnded job fragments r × KeepsState content images moment honest b job digest (story_of r) old new
  HasTried b job digest fragments (Err s) old new = IsUnanswered s × RefusesFor b job digest (content old) s × KeepsState content images moment honest b job digest None old new
