-- The theorems on runs of the base machine, as statements.
use Rattle.std.specs.Prelude.{◌≡◌, ◌≢◌, ℕ, ◌+◌, ◌^◌, ◌<◌, ◌≤◌, false, ◌↔◌, IsTrue, List, [], length, slice_index}
use Rattle.graph_core.specs.declared.job.Job.{Job}
use Rattle.graph_core.specs.Graphs.{IsJob}
use Rattle.graph_core.specs.Equations.{Assignment, AreLawful, IsGreatest}
use Rattle.graph_core.specs.Fragments.{AreCutOf, IsOwnedAt, piece_at}
use Rattle.token_cut.specs.Parts.{SnapshotParts}
use Rattle.token_cut.specs.Form.{IsEpoch, IsInSlotForm}
use Rattle.base_machine.specs.Machine.{System, system_of, BaseState, BaseEvent, BaseTake, BaseGive, worker_at, is_running, sent_to, base_state_of, fresh_snapshot, snapshot_of, base_after, is_allowed}
use Rattle.base_machine.specs.Shapes.{system_shape}
use Rattle.base_machine.specs.Runs.{Runs, takes_in}
use Rattle.base_machine.specs.Fitness.{is_quiet, IsFit, IsInForm}
use Rattle.base_machine.specs.Bounds.{bound_of}

-- a lawful program on a proper cut of the graph
pub record IsSound (sys : System) : Type 0 where
  pub lawful : AreLawful sys.equations
  pub cut : AreCutOf sys.equations sys.pieces

-- The system of every job is sound.
abbrev pub SystemsAreSound : Type 0
SystemsAreSound = (job : Job) → IsJob job → IsSound (system_of job)

-- Fitness is kept by every base event.
abbrev pub FitIsKept : Type 0
FitIsKept =
    (sys : System) (g : Assignment) → IsSound sys → IsGreatest sys.equations g →
    (ws : BaseState) (e : BaseEvent) → IsFit sys g ws → IsTrue (is_allowed ws e) → IsFit sys g (base_after sys ws e)

-- The beginning is fit.
abbrev pub FreshIsFit : Type 0
FreshIsFit = (sys : System) (g : Assignment) → IsSound sys → IsGreatest sys.equations g → IsFit sys g (base_state_of (fresh_snapshot sys))

-- A quiet run from a Fit start has the greatest solution, whatever the order of its events.
abbrev pub Confluence : Type 0
Confluence =
    (sys : System) (g : Assignment) → IsSound sys → IsGreatest sys.equations g →
    (start : SnapshotParts) (events : List BaseEvent) (ws : BaseState) → IsFit sys g (base_state_of start) → Runs sys (base_state_of start) events ws → IsTrue (is_quiet ws) →
    (i p v : ℕ) → IsOwnedAt sys.pieces i p v → slice_index (worker_at ws i).values p ≡ g v

-- Two base events of different workers are apart where the second takes no batch of the first and the first does not reach a Give that comes second.
abbrev pub AreApart : System → BaseState → BaseEvent → BaseEvent → Type 0
AreApart sys ws (BaseTake i upto) (BaseTake k upto') = i ≢ k
AreApart sys ws (BaseTake i upto) (BaseGive k) = (i ≢ k) × (slice_index upto k < (worker_at ws k).gives + 1)
AreApart sys ws (BaseGive i) (BaseTake k upto) = (i ≢ k) × (sent_to sys (piece_at sys.pieces i) (worker_at ws i) k ≡ [])
AreApart sys ws (BaseGive i) (BaseGive k) = i ≢ k

-- Neighbours that are apart may change places, and the state after both is the same.
abbrev pub NeighboursSwap : Type 0
NeighboursSwap =
    (sys : System) (ws : BaseState) (a b : BaseEvent) → AreApart sys ws a b → IsTrue (is_allowed ws a) → IsTrue (is_allowed (base_after sys ws a) b) →
    IsTrue (is_allowed ws b) × IsTrue (is_allowed (base_after sys ws b) a) × (base_after sys (base_after sys ws a) b ≡ base_after sys (base_after sys ws b) a)

-- A run from a start in the form has at most so many Takes.
abbrev pub RunsAreBounded : Type 0
RunsAreBounded =
    (sys : System) (start : SnapshotParts) (events : List BaseEvent) (ws : BaseState) → IsSound sys → IsInForm sys start →
    Runs sys (base_state_of start) events ws → takes_in events ≤ bound_of sys

-- A run from a start in the form leads to a state whose snapshot has its parts in the form.
abbrev pub FormIsKept : Type 0
FormIsKept =
    (sys : System) (start : SnapshotParts) (events : List BaseEvent) (ws : BaseState) (epoch : ℕ) → IsSound sys → IsInForm sys start → epoch < 2 ^ 62 →
    Runs sys (base_state_of start) events ws → IsInForm sys (snapshot_of sys ws epoch)

-- A snapshot may stand in a slot of a state file exactly where its epoch is one of that slot, and it is in the form in which a run may begin.
abbrev pub SlotsHoldStarts : Type 0
SlotsHoldStarts =
    (sys : System) → IsSound sys → (slot : ℕ) (s : SnapshotParts) → IsInSlotForm (system_shape sys) slot s ↔ (IsEpoch slot s.epoch × IsInForm sys s)

-- The snapshot of a fit state in which nobody runs is a fit start.
abbrev pub SnapshotIsFit : Type 0
SnapshotIsFit =
    (sys : System) (g : Assignment) → IsSound sys → IsGreatest sys.equations g → (ws : BaseState) (epoch : ℕ) → IsFit sys g ws →
    ((i : ℕ) → i < length ws → is_running (worker_at ws i) ≡ false) → IsFit sys g (base_state_of (snapshot_of sys ws epoch))
