-- State files from which a run may be resumed.
use Rattle.std.specs.Prelude.{◌≡◌, ◌⊎◌, ℕ, List}
use Rattle.std.specs.List.{Contains}
use Rattle.graph_core.specs.declared.job.Job.{Job}
use Rattle.graph_core.specs.Graphs.{IsJob}
use Rattle.graph_core.specs.Equations.{Assignment, IsGreatest}
use Rattle.graph_core.specs.Queries.{equations_of}
use Rattle.token_cut.specs.Parts.{SnapshotParts}
use Rattle.base_machine.specs.Machine.{system_of, base_state_of}
use Rattle.base_machine.specs.Fitness.{IsFit}
use Rattle.snapshot_store.specs.State.{file_state}
use Rattle.snapshot_store.specs.State.FileState.{nothing, last}
use Rattle.recovery.specs.Crashes.{EntryOrCut}
use Rattle.recovery.specs.Entries.{StartsFrom}
use Rattle.coordinator.specs.Shapes.{shape_of}

-- every run from this start comes to the answer
abbrev pub IsFitStart : Job → SnapshotParts → Type 0
IsFitStart job start = (g : Assignment) → IsGreatest (equations_of job) g → IsFit (system_of job) g (base_state_of start)

-- the file opens as nothing, or as a snapshot from which every run of the job comes to the answer
abbrev pub IsResumable : Job → List ℕ → List ℕ → Type 0
IsResumable job digest file =
    (file_state (shape_of job) digest file ≡ nothing) ⊎ ((start : SnapshotParts) × (file_state (shape_of job) digest file ≡ last start) × IsFitStart job start)

-- A file that may be resumed stays one, whatever a crash leaves, where every run from a sealed snapshot comes to the answer.
abbrev pub FilesStayResumable : Type 0
FilesStayResumable =
    (job : Job) (digest file c : List ℕ) (cuts : List SnapshotParts) → ((s : SnapshotParts) → Contains cuts s → IsFitStart job s) → IsResumable job digest file →
    EntryOrCut (shape_of job) digest cuts file c → IsResumable job digest c

-- From a file that may be resumed every run comes to the answer.
abbrev pub ResumedStartsAreFit : Type 0
ResumedStartsAreFit =
    (job : Job) (digest file : List ℕ) (start : SnapshotParts) → IsJob job → IsResumable job digest file → StartsFrom (shape_of job) digest file start → IsFitStart job start
