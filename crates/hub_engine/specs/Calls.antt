-- What the calls of a hub answer and leave.
use Rattle.std.specs.Prelude.{◌≡◌, ℕ, ◌+◌, ◌*◌, ◌<◌, ◌≤◌, Bool, false, true, not, MatchBool, map, List, [], ◌∷◌, ◌++◌, Option, Some, None, ⊤, length, take, reverse, slice_index_or}
use Rattle.std.specs.List.{AllZip}
use Rattle.graph_core.specs.declared.job.Job.{Job}
use Rattle.graph_core.specs.Fragments.{fragment_of, places}
use Rattle.graph_core.specs.Queries.{equations_of}
use Rattle.grape_event.specs.declared.event.Event.{Event}
use Rattle.grape_event.specs.declared.event.Event.TheVariants.{Take, Stretch, Hold, Flag, Ask, Ack, Nack, Seal, End}
use Rattle.token_cut.specs.Parts.{SnapshotParts, part_at}
use Rattle.token_cut.specs.Shapes.{sizes_of}
use Rattle.legal_journal.specs.Cuts.{sealed_snapshot}
use Rattle.grape_event.specs.Events.{is_take}
use Rattle.pie_core.specs.Locals.{LocalValues}
use Rattle.pie_core.specs.Solutions.{IsReadyFor, OwnEquationsHold}
use Rattle.base_machine.specs.Machine.{worker_at, is_running, hand_of, values_given}
use Rattle.legal_journal.specs.Past.{has_ended}
use Rattle.legal_journal.specs.Legal.{is_admitted, stretch_from}
use Rattle.legal_journal.specs.Choices.{duty_choice}
use Rattle.hub_engine.specs.declared.work.Work.{Work}
use Rattle.hub_engine.specs.declared.work.Next.{Next}
use Rattle.hub_engine.specs.declared.work.Next.TheVariants.{Took, Did, Idle, Ended, NoMemory}
use Rattle.hub_engine.specs.declared.work.Duty.{Duty}
use Rattle.hub_engine.specs.declared.work.Duty.TheVariants as duty
use Rattle.hub_engine.specs.HubValues.{HubValues}
use Rattle.hub_engine.specs.States.{machine, state_of, workers_of, piece_of_worker, sealed_epoch, IsOut}
use Rattle.hub_engine.specs.Choices.{MayChoose}
use Rattle.hub_engine.specs.Desks.{HasSizes, has_taken}

-- an event was appended, and nothing else is changed but how much room is spare
abbrev pub Appended : HubValues → Event → HubValues → Type 0
Appended old e new = (new.job ≡ old.job) × (new.counters ≡ old.counters) × (new.journal.events ≡ old.journal.events ++ e ∷ []) × (new.start ≡ old.start)

abbrev pub Unchanged : HubValues → HubValues → Type 0
Unchanged old new = (new.job ≡ old.job) × (new.counters ≡ old.counters) × (new.journal.events ≡ old.journal.events) × (new.start ≡ old.start)

-- The Work that the lane has out: it has the values and the hand of its Take, and the fragment's sizes.
pub record IsWork (h : HubValues) (lane : ℕ) (fresh : Bool) (work : Work) : Type 0 where
  pub out : IsOut (state_of h) lane work.worker work.place
  pub is_first : work.fresh ≡ fresh
  pub values : work.local.values ≡ (worker_at (workers_of h) work.worker).values
  pub hand : work.hand ≡ record { order = (machine h).equations.order; values = hand_of (worker_at (workers_of h) work.worker) }
  pub before : work.local.before ≡ take (length (piece_of_worker h work.worker).owned) (worker_at (workers_of h) work.worker).values
  pub sizes : HasSizes (piece_of_worker h work.worker) h.counters work.local.before work.local.counters work.hand.values

-- a hub that has done nothing yet
abbrev pub Begins : Job → ℕ → SnapshotParts → HubValues → Type 0
Begins job counters start h = (h.job ≡ job) × (h.counters ≡ counters) × (h.journal.events ≡ []) × (h.start ≡ start)

-- What a lane's call of next answers, and leaves: the first admitted event in the order of choice, and its Work where it is a Take.
abbrev pub Chooses : HubValues → ℕ → Next → HubValues → Type 0
Chooses old lane (Took work) new =
    MayChoose (machine old) (state_of old) lane (Some (Take work.worker lane)) × Appended old (Take work.worker lane) new
    × IsWork new lane (not (has_taken work.worker (state_of old).past)) work
Chooses old lane (Did e) new = MayChoose (machine old) (state_of old) lane (Some e) × (is_take e ≡ false) × Appended old e new
Chooses old lane Idle new = MayChoose (machine old) (state_of old) lane None × (new ≡ old) × (has_ended (reverse old.journal.events) ≡ false)
Chooses old lane Ended new = (new ≡ old) × (has_ended (reverse old.journal.events) ≡ true)
Chooses old lane NoMemory new = Unchanged old new

abbrev pub is_seal : Event → Bool
is_seal (Seal e) = true
is_seal _ = false

-- What a call of duty answers, and leaves: the first admitted of Seal, End, Begin and Ask.
abbrev pub ChoosesDuty : HubValues → Duty → HubValues → Type 0
ChoosesDuty old (duty.Did e) new = (duty_choice (machine old) (state_of old) ≡ Some e) × (is_seal e ≡ false) × Appended old e new
ChoosesDuty old (duty.Sealed epoch) new = (duty_choice (machine old) (state_of old) ≡ Some (Seal epoch)) × Appended old (Seal epoch) new
ChoosesDuty old duty.Nothing new = (duty_choice (machine old) (state_of old) ≡ None) × (new ≡ old) × (has_ended (reverse old.journal.events) ≡ false)
ChoosesDuty old duty.Ended new = (new ≡ old) × (has_ended (reverse old.journal.events) ≡ true)
ChoosesDuty old duty.NoMemory new = Unchanged old new

-- A sealed snapshot of the hub's journal is written, and else nothing.
abbrev pub WritesSealed : Duty → HubValues → SnapshotParts → SnapshotParts → Type 0
WritesSealed (duty.Sealed epoch) new before written = sealed_snapshot (machine new) new.start epoch new.journal.events ≡ Some written
WritesSealed _ new before written = written ≡ before

-- a snapshot has the sizes of the fragments, where the job asks for snapshots
abbrev pub HasSizesOf : HubValues → SnapshotParts → Type 0
HasSizesOf h snapshot = 1 ≤ h.job.settings.snapshot → sizes_of snapshot.parts ≡ map (λ piece. (length (places piece), length piece.mirrors)) (machine h).pieces

-- the epoch that is sealed and not kept yet
abbrev pub MayKeep : HubValues → ℕ → Type 0
MayKeep h epoch = sealed_epoch (state_of h).past ≡ Some epoch

-- an event was appended, but for a journal that had ended, where nothing has changed
abbrev pub AppendedUnlessEnded : HubValues → Event → HubValues → Type 0
AppendedUnlessEnded old e new = MatchBool (has_ended (reverse old.journal.events)) (new ≡ old) (Appended old e new)

-- ---- parts of next

-- the Take of this worker
abbrev pub TakesWorker : HubValues → ℕ → ℕ → Next → HubValues → Type 0
TakesWorker old worker lane (Took work) new = (work.worker ≡ worker) × Appended old (Take worker lane) new × IsWork new lane (not (has_taken worker (state_of old).past)) work
TakesWorker old worker lane (Did e) new = ⊥
TakesWorker old worker lane Idle new = ⊥
TakesWorker old worker lane Ended new = ⊥
TakesWorker old worker lane NoMemory new = Unchanged old new

-- a Stretch of this worker is admitted, of the least turns and up to 64 more
abbrev pub MayStretch : HubValues → ℕ → Type 0
MayStretch h worker = (extra : ℕ) → extra ≤ 64 → is_admitted (machine h) (state_of h) (Stretch worker (stretch_from (machine h) (state_of h) worker + extra)) ≡ true

-- the Stretch of this worker, of the least turns and up to 64 more
abbrev pub StretchesWorker : HubValues → ℕ → Next → HubValues → Type 0
StretchesWorker old worker (Did e) new = (extra : ℕ) × (extra ≤ 64) × (e ≡ Stretch worker (stretch_from (machine old) (state_of old) worker + extra)) × Appended old e new
StretchesWorker old worker NoMemory new = Unchanged old new
StretchesWorker old worker (Took work) new = ⊥
StretchesWorker old worker Idle new = ⊥
StretchesWorker old worker Ended new = ⊥

-- the events that change no table but the probe
abbrev pub IsNote : Event → Type 0
IsNote (Hold i) = ⊤
IsNote (Flag i) = ⊤
IsNote Ask = ⊤
IsNote (Ack i) = ⊤
IsNote (Nack i) = ⊤
IsNote End = ⊤
IsNote _ = ⊥

abbrev pub NotesEvent : HubValues → Event → Next → HubValues → Type 0
NotesEvent old event (Did e) new = (e ≡ event) × Appended old event new
NotesEvent old event NoMemory new = Unchanged old new
NotesEvent old event (Took work) new = ⊥
NotesEvent old event Idle new = ⊥
NotesEvent old event Ended new = ⊥

abbrev pub NotesDuty : HubValues → Event → Duty → HubValues → Type 0
NotesDuty old event (duty.Did e) new = (e ≡ event) × Appended old event new
NotesDuty old event duty.NoMemory new = Unchanged old new
NotesDuty old event (duty.Sealed epoch) new = ⊥
NotesDuty old event duty.Nothing new = ⊥
NotesDuty old event duty.Ended new = ⊥

abbrev pub SealsEpoch : HubValues → ℕ → Duty → HubValues → Type 0
SealsEpoch old epoch (duty.Sealed e) new = (e ≡ epoch) × Appended old (Seal epoch) new
SealsEpoch old epoch duty.NoMemory new = Unchanged old new
SealsEpoch old epoch (duty.Did e) new = ⊥
SealsEpoch old epoch duty.Nothing new = ⊥
SealsEpoch old epoch duty.Ended new = ⊥

-- A Work may be evaluated: its values lie below the starts and, unless it is fresh, below their own equations.
pub record IsReady (h : HubValues) (work : Work) : Type 0 where
  pub first : IsReadyFor (equations_of h.job) h.job (fragment_of h.job work.worker) work.local h.counters
  pub again : work.fresh ≡ false → OwnEquationsHold (equations_of h.job) (fragment_of h.job work.worker).owned (fragment_of h.job work.worker).mirrors work.local.values

abbrev pub ReadyWhereTook : HubValues → Next → Type 0
ReadyWhereTook h (Took work) = IsReady h work
ReadyWhereTook h (Did e) = ⊤
ReadyWhereTook h Idle = ⊤
ReadyWhereTook h Ended = ⊤
ReadyWhereTook h NoMemory = ⊤

-- The lane gives back the Work that it has out: its values are the local solution of those at the Take lowered by the hand.
pub record MayGive (h : HubValues) (lane : ℕ) (work : Work) : Type 0 where
  pub out : IsOut (state_of h) lane work.worker work.place
  pub values : work.local.values ≡ values_given (machine h) (piece_of_worker h work.worker) (worker_at (workers_of h) work.worker)
  pub before : work.local.before ≡ take (length (piece_of_worker h work.worker).owned) (worker_at (workers_of h) work.worker).values
  pub order : work.hand.order ≡ (machine h).equations.order
  pub sizes : HasSizes (piece_of_worker h work.worker) h.counters work.local.before work.local.counters work.hand.values

-- Each Local has its worker's values, where the worker isn't out.
abbrev pub HaveValues : HubValues → List LocalValues → Type 0
HaveValues h locals = AllZip (λ local w. is_running w ≡ false → local.values ≡ w.values) locals (workers_of h)

-- A worker that is out gave its Work up, and its Local has the values of the start.
abbrev pub HaveStartValues : HubValues → List LocalValues → Type 0
HaveStartValues h locals = (i : ℕ) (d : LocalValues) → i < length (workers_of h) → is_running (worker_at (workers_of h) i) ≡ true → (slice_index_or locals i d).values ≡ (part_at i h.start.parts).values

-- a Local with the values of a worker's start, and with its sizes
pub record IsGivenUp (h : HubValues) (i : ℕ) (local : LocalValues) : Type 0 where
  pub values : local.values ≡ (part_at i h.start.parts).values
  pub owned : length local.before ≡ length (piece_of_worker h i).owned
  pub counters : length local.counters ≡ length (piece_of_worker h i).owned * h.counters

-- There is such a Local of each worker that is out.
pub record AreGivenUp (h : HubValues) (given : List (Option LocalValues)) : Type 0 where
  pub count : length given ≡ length (workers_of h)
  pub each : (i : ℕ) → i < length (workers_of h) → is_running (worker_at (workers_of h) i) ≡ true → (local : LocalValues) × (slice_index_or given i None ≡ Some local) × IsGivenUp h i local

-- each Local has the sizes of its worker's fragment, and of the program's counters
abbrev pub HaveSizes : HubValues → List LocalValues → Type 0
HaveSizes h locals = AllZip (λ local piece. (length local.before ≡ length piece.owned) × (length local.counters ≡ length piece.owned * h.counters)) locals (machine h).pieces
