-- The laws of hubs, as statements.
use Rattle.std.specs.Prelude.{◌≡◌, ℕ, Bool, true, ◌<◌, ◌≤◌, ◌+◌, ◌*◌, false, IsTrue, List, map, Option, None, [], ◌∷◌, ◌++◌, Some, length, reverse, slice_index, Contains}
use Rattle.graph_core.specs.declared.job.Job.{Job}
use Rattle.graph_core.specs.Graphs.{IsJob}
use Rattle.graph_core.specs.Equations.{Assignment, Equations, IsGreatest}
use Rattle.graph_core.specs.Queries.{equations_of}
use Rattle.graph_core.specs.Fragments.{IsOwnedAt, pieces_of, fragment_of}
use Rattle.pie_core.specs.Locals.{LocalValues}
use Rattle.pie_core.specs.Solutions.{lowered, local_solution}
use Rattle.pie_core.specs.Evaluations.{MayEvaluate}
use Rattle.grape_event.specs.declared.event.Event.{Event}
use Rattle.grape_event.specs.declared.event.Event.TheVariants.{Take, Give, Seal, End}
use Rattle.grape_event.specs.Events.{is_take}
use Rattle.token_cut.specs.Parts.{SnapshotParts}
use Rattle.base_machine.specs.Machine.{BaseState, BaseEvent, worker_at, is_running, system_with, system_of, base_state_of, fresh_snapshot}
use Rattle.base_machine.specs.Runs.{Runs}
use Rattle.base_machine.specs.Fitness.{is_quiet, IsFit, IsInForm}
use Rattle.base_machine.specs.Bounds.{bound_of}
use Rattle.legal_journal.specs.BaseEvents.{base_of}
use Rattle.legal_journal.specs.Past.{has_ended}
use Rattle.legal_journal.specs.Legal.{has_work_out}
use Rattle.legal_journal.specs.Choices.{duty_choice}
use Rattle.legal_journal.specs.Cuts.{sealed_snapshot, sealed_snapshots, epochs_kept}
use Rattle.legal_journal.specs.Theorems.{IsConsistentCut}
use Rattle.hub_engine.specs.HubValues.{HubValues}
use Rattle.hub_engine.specs.declared.work.Work.{Work}
use Rattle.hub_engine.specs.Calls.{Appended, IsWork, IsReady, MayGive}
use Rattle.hub_engine.specs.States.{machine, state_of, workers_of, sealed_epoch, IsHub}
use Rattle.hub_engine.specs.Choices.{MayChoose}
use Rattle.grape_hub.specs.LanedHub.{LanedHub, lane_at, is_out_at, IsLanedHub}
use Rattle.grape_hub.specs.Notes.{ground_of, is_stopped_by_disk, numbers_of_cuts, ground_in, own_in, calls_in, answer_in, length_in, note_of, HasNoWork}

-- nobody is out
abbrev pub IsCalm : HubValues → Type 0
IsCalm h = (i : ℕ) → i < length (workers_of h) → is_running (worker_at (workers_of h) i) ≡ false

-- A Work that a lane has out and that is ready may be evaluated, and then given back.
abbrev pub WorksMayBeEvaluated : Type 0
WorksMayBeEvaluated =
    (h : HubValues) (lane : ℕ) (fresh : Bool) (work : Work) → IsHub h → IsWork h lane fresh work → IsReady h work →
    MayEvaluate (equations_of h.job) h.job (fragment_of h.job work.worker) work.fresh work.local h.counters work.hand

abbrev pub EvaluatedMayBeGiven : Type 0
EvaluatedMayBeGiven =
    (h : HubValues) (lane : ℕ) (fresh : Bool) (work : Work) (local : LocalValues) → IsHub h → IsWork h lane fresh work →
    local.values ≡ local_solution (equations_of h.job) (fragment_of h.job work.worker).owned (fragment_of h.job work.worker).mirrors (lowered (equations_of h.job) (fragment_of h.job work.worker).owned work.local.values work.hand.values) →
    local.before ≡ work.local.before → length local.counters ≡ length work.local.counters → MayGive h lane (record work { local = local })

-- Where nobody is out every lane is free, and a lane's turn, a Take with its Give or another event, leaves it so.
abbrev pub CalmIsFree : Type 0
CalmIsFree = (h : HubValues) (lane : ℕ) → IsCalm h → has_work_out (state_of h) lane ≡ false

abbrev pub CalmAtBeginning : Type 0
CalmAtBeginning = (h : HubValues) → IsHub h → h.journal.events ≡ [] → IsCalm h

abbrev pub CalmAfterTurn : Type 0
CalmAfterTurn =
    (old taken given : HubValues) (i lane : ℕ) → IsHub old → IsCalm old → Appended old (Take i lane) taken → IsHub taken → Appended taken (Give i) given → IsHub given → IsCalm given

abbrev pub CalmAfterOther : Type 0
CalmAfterOther = (old new : HubValues) (e : Event) → IsHub old → IsCalm old → is_take e ≡ false → Appended old e new → IsHub new → IsCalm new

-- Without snapshots: where nobody is out and a lane has nothing to do before the end, every worker rests and no mail waits.
abbrev pub IdleIsQuiet : Type 0
IdleIsQuiet =
    (h : HubValues) (lane : ℕ) → IsHub h → h.job.settings.snapshot ≡ 0 → IsCalm h → has_ended (reverse h.journal.events) ≡ false → lane < h.job.settings.lanes → MayChoose (machine h) (state_of h) lane None →
    IsTrue (is_quiet (workers_of h))

-- Where nobody is out before the end, what is sealed is kept, and there is no duty, any one lane can go on.
abbrev pub OneLaneGoesOn : Type 0
OneLaneGoesOn =
    (h : HubValues) (lane : ℕ) → IsHub h → IsCalm h → sealed_epoch (state_of h).past ≡ None → has_ended (reverse h.journal.events) ≡ false → lane < h.job.settings.lanes → duty_choice (machine h) (state_of h) ≡ None →
    ¬ MayChoose (machine h) (state_of h) lane None

-- A journal that ends by End has a quiet state: every worker rests and no mail waits.
abbrev pub EndIsQuiet : Type 0
EndIsQuiet = (h : HubValues) (journal : List Event) → IsHub h → h.journal.events ≡ journal ++ End ∷ [] → IsTrue (is_quiet (workers_of h))

-- The Takes and Gives of a hub's journal are a run of the base machine, from its start to the hub's workers.
abbrev pub HubsRun : Type 0
HubsRun = (h : HubValues) → IsHub h → Runs (machine h) (base_state_of h.start) (base_of (length h.start.parts) h.journal.events) (workers_of h)

-- Whatever the order in which workers take and give: where a run of these equations from a fit start is quiet, the owners have the greatest solution.
abbrev pub IsConfluent : Equations → Job → Type 0
IsConfluent e job =
    (g : Assignment) (start : SnapshotParts) (events : List BaseEvent) (ws : BaseState) → IsGreatest e g → IsFit (system_with e job) g (base_state_of start) →
    Runs (system_with e job) (base_state_of start) events ws → IsTrue (is_quiet ws) → (i p v : ℕ) → IsOwnedAt (pieces_of job) i p v → slice_index (worker_at ws i).values p ≡ g v

-- From a fit start: where every worker rests and no mail waits, the owners have the greatest solution of the job's equations.
abbrev pub QuietIsTheAnswer : Type 0
QuietIsTheAnswer =
    (h : HubValues) (g : Assignment) → IsHub h → IsGreatest (equations_of h.job) g → IsFit (machine h) g (base_state_of h.start) → IsTrue (is_quiet (workers_of h)) →
    (i p v : ℕ) → IsOwnedAt (pieces_of h.job) i p v → slice_index (worker_at (workers_of h) i).values p ≡ g v

-- how many events a job's journal has at most
abbrev pub event_bound : HubValues → ℕ
event_bound h = (140 + 2 * h.job.settings.fragments) * (bound_of (machine h) + h.job.settings.fragments)

abbrev pub JournalIsBounded : Type 0
JournalIsBounded = (h : HubValues) → IsHub h → length h.journal.events ≤ event_bound h

-- The cut of a sealed epoch is consistent: it runs from the hub's start to a state in which nobody runs and whose snapshot is the sealed one, and the other Takes and Gives run on from there to the hub's workers.
abbrev pub CutsAreConsistent : Type 0
CutsAreConsistent =
    (h : HubValues) (epoch : ℕ) → IsHub h → Contains h.journal.events (Seal epoch) →
    (ws : BaseState) × IsConsistentCut (machine h) h.start h.journal.events epoch ws

-- A sealed snapshot is in the form, so that a hub may begin with it, and from a fit start it is a fit start itself.
abbrev pub SealedMayBeResumed : Type 0
SealedMayBeResumed =
    (h : HubValues) (epoch : ℕ) (snapshot : SnapshotParts) → IsHub h → Contains h.journal.events (Seal epoch) →
    sealed_snapshot (machine h) h.start epoch h.journal.events ≡ Some snapshot →
    IsInForm (machine h) snapshot
    × ((g : Assignment) → IsGreatest (equations_of h.job) g → IsFit (machine h) g (base_state_of h.start) → IsFit (machine h) g (base_state_of snapshot))

-- the epoch that waits to be kept, as a list
abbrev pub waiting_in : Option ℕ → List ℕ
waiting_in None = []
waiting_in (Some epoch) = epoch ∷ []

-- The Kepts of a hub's journal are of its sealed snapshots in order, all but the one that waits to be kept.
abbrev pub KeptsFollowSeals : Type 0
KeptsFollowSeals =
    (h : HubValues) → IsHub h →
    map (λ s. s.epoch) (sealed_snapshots (machine h) h.start h.journal.events) ≡ epochs_kept h.journal.events ++ waiting_in (sealed_epoch (state_of h).past)

-- Every snapshot that a hub sealed is in the form, so that a hub may begin with it, and from a fit start it is a fit start itself.
abbrev pub CutsMayBeResumed : Type 0
CutsMayBeResumed =
    (h : HubValues) (s : SnapshotParts) → IsHub h → Contains (sealed_snapshots (machine h) h.start h.journal.events) s →
    IsInForm (machine h) s × ((g : Assignment) → IsGreatest (equations_of h.job) g → IsFit (machine h) g (base_state_of h.start) → IsFit (machine h) g (base_state_of s))

-- The fresh snapshot of every job is in the form and is a fit start.
abbrev pub FreshIsAStart : Type 0
FreshIsAStart =
    (job : Job) → IsJob job →
    IsInForm (system_of job) (fresh_snapshot (system_of job))
    × ((g : Assignment) → IsGreatest (equations_of job) g → IsFit (system_of job) g (base_state_of (fresh_snapshot (system_of job))))

-- A hub whose job asks for no snapshots never seals one.
abbrev pub NothingIsSealed : Type 0
NothingIsSealed =
    (h : HubValues) → IsHub h → h.job.settings.snapshot ≡ 0 →
    (sealed_epoch (state_of h).past ≡ None) × ((epoch : ℕ) → duty_choice (machine h) (state_of h) ≡ Some (Seal epoch) → ⊥)

-- Another event than its worker's Give leaves a Work as it is.
abbrev pub WorksStay : Type 0
WorksStay =
    (old new : HubValues) (lane : ℕ) (fresh : Bool) (work : Work) (e : Event) → IsWork old lane fresh work → IsReady old work → Appended old e new → IsHub new → (e ≡ Give work.worker → ⊥) →
    IsWork new lane fresh work × IsReady new work

-- A lane without a Work out is free after every event but a Take of its own, and after the Give of its Work.
abbrev pub LanesStay : Type 0
LanesStay =
    ((old new : HubValues) (lane : ℕ) (e : Event) → has_work_out (state_of old) lane ≡ false → ((i : ℕ) → e ≡ Take i lane → ⊥) → Appended old e new → has_work_out (state_of new) lane ≡ false)
    × ((old new : HubValues) (lane : ℕ) (fresh : Bool) (work : Work) → IsHub old → IsWork old lane fresh work → Appended old (Give work.worker) new → has_work_out (state_of new) lane ≡ false)

-- ---- what notes tell

-- Jobs and starts with one ground are equal.
abbrev pub GroundsTell : Type 0
GroundsTell = (job other : Job) (start begun : SnapshotParts) → ground_of job start ≡ ground_of other begun → (job ≡ other) × (start ≡ begun)

-- A note begins with the ground of the hub's job and start.
abbrev pub NotesBegin : Type 0
NotesBegin = (x : LanedHub) (k : ℕ) → ground_in (note_of x k) ≡ ground_of x.hub.job x.hub.start

-- No Work stands in a lane's note exactly where the lane has none out.
abbrev pub EmptyIsFree : Type 0
EmptyIsFree =
    (x : LanedHub) (k : ℕ) → IsLanedHub x → k < x.hub.job.settings.lanes →
    (HasNoWork (note_of x k) → is_out_at x k ≡ false) × (is_out_at x k ≡ false → HasNoWork (note_of x k))

-- A lane's note has its record.
abbrev pub RecordsTell : Type 0
RecordsTell =
    (x : LanedHub) (k : ℕ) → IsLanedHub x → k < x.hub.job.settings.lanes →
    (calls_in (note_of x k) ≡ (lane_at x k).calls) × (1 ≤ (lane_at x k).calls → answer_in (note_of x k) ≡ (lane_at x k).answer)
    × (1 ≤ (lane_at x k).calls → length_in (note_of x k) ≡ (lane_at x k).length)

-- an epoch that waits to be kept is none of the beginning, and where one waits something was sealed
abbrev pub WaitsAmong : Option ℕ → List SnapshotParts → Type 0
WaitsAmong None cuts = Unit {0}
WaitsAmong (Some epoch) cuts = (1 ≤ epoch) × (1 ≤ length cuts)

-- The coordinator's note has the epoch that waits to be kept, whether the disk stopped the run, and the sealed snapshots; and it is the note of no others.
abbrev pub CutsTell : Type 0
CutsTell =
    (x : LanedHub) → IsLanedHub x →
    WaitsAmong (sealed_epoch (state_of x.hub).past) (sealed_snapshots (machine x.hub) x.hub.start x.hub.journal.events)
    × (own_in (note_of x x.hub.job.settings.lanes)
    ≡ numbers_of_cuts (sealed_epoch (state_of x.hub).past) (is_stopped_by_disk (state_of x.hub).past) (sealed_snapshots (machine x.hub) x.hub.start x.hub.journal.events))
    × ((unkept : Option ℕ) (stopped : Bool) (cuts : List SnapshotParts) → WaitsAmong unkept cuts → own_in (note_of x x.hub.job.settings.lanes) ≡ numbers_of_cuts unkept stopped cuts →
    (sealed_epoch (state_of x.hub).past ≡ unkept) × (is_stopped_by_disk (state_of x.hub).past ≡ stopped) × (sealed_snapshots (machine x.hub) x.hub.start x.hub.journal.events ≡ cuts))

-- What a lane may give back to one hub it may give back to another that has the same note of it.
abbrev pub WorksTell : Type 0
WorksTell =
    (x y : LanedHub) (k : ℕ) (work : Work) → IsLanedHub x → IsLanedHub y → k < x.hub.job.settings.lanes → note_of x k ≡ note_of y k → x.hub.counters ≡ y.hub.counters →
    is_out_at x k ≡ true → MayGive x.hub k work → (is_out_at y k ≡ true) × MayGive y.hub k work

-- Where nobody is out no lane has a Work out, and until the journal has ended, nobody is out where no lane has.
abbrev pub CalmIsEmpty : Type 0
CalmIsEmpty =
    (x : LanedHub) → IsLanedHub x →
    (IsCalm x.hub → (k : ℕ) → is_out_at x k ≡ false)
    × (has_ended (reverse x.hub.journal.events) ≡ false → ((k : ℕ) → k < x.hub.job.settings.lanes → is_out_at x k ≡ false) → IsCalm x.hub)
