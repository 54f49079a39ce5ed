-- What a run tells.
use Rattle.std.specs.Prelude.{◌≡◌, ℕ, ◌≤◌, List, [], ◌∷◌, ◌++◌, Bool, true, IsTrue, ⊤, length, slice_index, Option, Some, None}
use Rattle.std.specs.List.{AllZip}
use Rattle.graph_core.specs.declared.job.Job.{Job}
use Rattle.graph_core.specs.Graphs.{IsJob}
use Rattle.graph_core.specs.Parts.{FragmentLists}
use Rattle.graph_core.specs.Equations.{Assignment, IsGreatest}
use Rattle.graph_core.specs.Queries.{equations_of}
use Rattle.graph_core.specs.Fragments.{IsOwnedAt, pieces_of}
use Rattle.pie_core.specs.Locals.{LocalValues}
use Rattle.answer_text.specs.Assembled.{FitParts, values_at}
use Rattle.grape_event.specs.declared.event.Event.{Event}
use Rattle.grape_event.specs.declared.event.Event.TheVariants.{End, Stop}
use Rattle.grape_event.specs.declared.event.StopCause.TheVariants.{Disk}
use Rattle.grape_event.specs.Events.{is_last}
use Rattle.token_cut.specs.Parts.{SnapshotParts}
use Rattle.base_machine.specs.Machine.{system_of, base_state_of}
use Rattle.base_machine.specs.Fitness.{is_quiet, IsFit}
use Rattle.legal_journal.specs.Legal.{state_at_end, IsLegal}
use Rattle.legal_journal.specs.Cuts.{sealed_snapshots, epochs_kept}
use Rattle.grape_disk.specs.Images.{AtRest}
use Rattle.snapshot_store.specs.State.{IsKept}
use Rattle.snapshot_store.specs.Stores.{StoreValue}
use Rattle.recovery.specs.Crashes.{kept_epochs, Survives}
use Rattle.coordinator.specs.Shapes.{shape_of}
use Rattle.coordinator.specs.declared.ran.Ran.{Ran}
use Rattle.coordinator.specs.declared.ran.Ran.TheVariants.{Done, Stopped, NoMemory}
use Rattle.coordinator.specs.declared.story.Story.{Story}

-- the last event of a journal
abbrev pub EndsBy : Event → List Event → Type 0
EndsBy e journal = (before : List Event) × (journal ≡ before ++ e ∷ [])

-- an event that ended a journal
abbrev pub LastEvent : List Event → Event → Type 0
LastEvent journal e = EndsBy e journal × (is_last e ≡ true)

-- the snapshots that a story's run sealed, in order
abbrev pub cuts_of : Job → Story → List SnapshotParts
cuts_of job story = sealed_snapshots (system_of job) story.start story.journal.events

-- The story of a run of a job from this start: its journal is legal. What its Kepts say was kept is noted first, in their order.
pub record IsStoryOf (job : Job) (start : SnapshotParts) (story : Story) : Type 0 where
  pub starts : story.start ≡ start
  pub legal : IsLegal (system_of job) start story.journal.events
  pub noted : (more : List ℕ) × (kept_epochs story.kept.items ≡ epochs_kept story.journal.events ++ more)

-- One for each fragment, in order, with a value for each place and one before for each owned place, and with its worker's values after the journal.
pub record AreLocalsOf (job : Job) (fragments : List FragmentLists) (story : Story) (locals : List LocalValues) : Type 0 where
  pub places : FitParts fragments locals
  pub owned : AllZip (λ part local. length local.before ≡ length part.owned) fragments locals
  pub values : AllZip (λ local w. local.values ≡ w.values) locals (state_at_end (system_of job) story.start story.journal.events).workers

-- How a run of a job on its fragments from this start ended: its journal is legal, and ends by End exactly where it is done, and else by a Stop of that cause.
abbrev pub HasRun : Job → List FragmentLists → SnapshotParts → Ran → Type 0
HasRun job fragments start (Done locals story) = IsStoryOf job start story × EndsBy End story.journal.events × AreLocalsOf job fragments story locals.items
HasRun job fragments start (Stopped cause story) = IsStoryOf job start story × EndsBy (Stop cause) story.journal.events
HasRun job fragments start NoMemory = ⊤

-- the disk stopped the run
abbrev pub IsStoppedByDisk : Ran → Type 0
IsStoppedByDisk (Stopped Disk story) = ⊤
IsStoppedByDisk _ = ⊥

-- nothing stopped the run
abbrev pub IsNotStopped : Ran → Type 0
IsNotStopped (Stopped cause story) = ⊥
IsNotStopped _ = ⊤

-- its story keeps nothing
abbrev pub KeepsNothing : Ran → Type 0
KeepsNothing (Done locals story) = story.kept.items ≡ []
KeepsNothing (Stopped cause story) = story.kept.items ≡ []
KeepsNothing NoMemory = ⊤

-- ---- the state file

-- a store that has kept this epoch last
abbrev pub HasLast : ℕ → Option StoreValue → Type 0
HasLast epoch None = ⊥
HasLast epoch (Some store) = store.last ≡ epoch

-- What was done with the disk in a run of the job: without snapshots nothing. Its moments go on, and an honest disk stays one.
module _ {D : Type 0} (moment : D → ℕ) (honest : D → Bool) where
  pub record HasUsed (job : Job) (old new : D) : Type 0 where
    pub unused : job.settings.snapshot ≡ 0 → new ≡ old
    pub later : moment old ≤ moment new
    pub honest_stays : honest new ≡ honest old

module _ {D : Type 0} (content : D → Option (List ℕ)) (images : D → ℕ → List ℕ → Type 0) (moment : D → ℕ) where
  -- What a crash in a run leaves: the file with which it began, or a snapshot that it sealed, and once one was kept that one or a later one.
  abbrev pub RunSurvives : Job → List ℕ → Ran → List ℕ → D → D → Type 0
  RunSurvives job digest (Done locals story) file old new = Survives images moment (shape_of job) digest (cuts_of job story) story.kept.items file old new
  RunSurvives job digest (Stopped cause story) file old new = Survives images moment (shape_of job) digest (cuts_of job story) story.kept.items file old new
  RunSurvives job digest NoMemory file old new = Survives images moment (shape_of job) digest [] [] file old new

  -- Where the run keeps its snapshots by this store, and nothing is pending when it begins.
  abbrev pub KeepsBy : Job → Option StoreValue → Ran → D → D → Type 0
  KeepsBy job None ran old new = ⊤
  KeepsBy job (Some store) ran old new = (file : List ℕ) → AtRest content images moment old file → IsKept (shape_of job) store.digest store.last file → RunSurvives job store.digest ran file old new

-- ---- what the end means

-- When the story's journal has been written nobody runs and nothing waits.
abbrev pub EndsQuiet : Job → Story → Type 0
EndsQuiet job story = IsTrue (is_quiet (state_at_end (system_of job) story.start story.journal.events).workers)

-- Where a run is done, nobody runs and nothing waits at its end.
abbrev pub DoneIsQuiet : Type 0
DoneIsQuiet = (job : Job) (story : Story) → IsStoryOf job story.start story → EndsBy End story.journal.events → EndsQuiet job story

-- Where a run from a fit start is done, the owners have the greatest solution of the job's equations.
abbrev pub DoneIsTheAnswer : Type 0
DoneIsTheAnswer =
    (job : Job) (fragments : List FragmentLists) (story : Story) (locals : List LocalValues) (g : Assignment) → IsJob job → IsStoryOf job story.start story → IsFit (system_of job) g (base_state_of story.start) →
    EndsBy End story.journal.events → AreLocalsOf job fragments story locals →
    IsGreatest (equations_of job) g → (i p v : ℕ) → IsOwnedAt (pieces_of job) i p v → slice_index (values_at locals i) p ≡ g v
