-- The theorems on legal journals, as statements.
use Rattle.std.specs.Prelude.{◌≡◌, ℕ, ◌+◌, ◌*◌, ◌^◌, ◌<◌, ◌≤◌, ◌↔◌, false, IsTrue, List, [], ◌∷◌, ◌++◌, Some, None, length, map, reverse, count_by, Contains}
use Rattle.graph_core.specs.Equations.{Assignment, IsGreatest}
use Rattle.grape_event.specs.declared.event.Event.{Event}
use Rattle.grape_event.specs.declared.event.Event.TheVariants.{End, Seal}
use Rattle.grape_event.specs.Events.{is_take, is_stop}
use Rattle.token_cut.specs.Parts.{SnapshotParts}
use Rattle.base_machine.specs.Machine.{System, BaseState, worker_at, is_running, base_state_of, snapshot_of}
use Rattle.base_machine.specs.Runs.{Runs}
use Rattle.base_machine.specs.Fitness.{is_quiet, IsFit, IsInForm}
use Rattle.base_machine.specs.Bounds.{bound_of}
use Rattle.base_machine.specs.Theorems.{IsSound}
use Rattle.legal_journal.specs.Past.{has_ended, took_since_ask, was_sealed, was_kept}
use Rattle.legal_journal.specs.BaseEvents.{base_of}
use Rattle.legal_journal.specs.Legal.{State, state_after, state_at_end, is_admitted, IsLegal}
use Rattle.legal_journal.specs.Choices.{is_of_lane, next_choice, is_duty, duty_choice, run_choice}
use Rattle.legal_journal.specs.Cuts.{cut_of, after_cut, sealed_snapshot, sealed_snapshots, FollowOn}

-- The Takes and Gives of a legal journal are a run to its state.
abbrev pub JournalRuns : Type 0
JournalRuns =
    (sys : System) (start : SnapshotParts) (journal : List Event) → IsLegal sys start journal →
    Runs sys (base_state_of start) (base_of (length start.parts) journal) (state_at_end sys start journal).workers

-- One more event: what was written so far, the state after it, and whether the journal stays legal.
abbrev pub JournalsGrow : Type 0
JournalsGrow =
    (sys : System) (start : SnapshotParts) (journal : List Event) (e : Event) →
    ((state_at_end sys start journal).past ≡ reverse journal)
    × (state_at_end sys start (journal ++ e ∷ []) ≡ state_after sys (state_at_end sys start journal) e)
    × (IsLegal sys start (journal ++ e ∷ []) ↔ (IsLegal sys start journal × IsTrue (is_admitted sys (state_at_end sys start journal) e)))

-- After an End every worker rests and nothing is pending, and no worker took since the last Ask.
abbrev pub EndIsQuiet : Type 0
EndIsQuiet =
    (sys : System) (start : SnapshotParts) (journal : List Event) → IsLegal sys start (journal ++ End ∷ []) →
    IsTrue (is_quiet (state_at_end sys start journal).workers) × ((i : ℕ) → i < length start.parts → took_since_ask i (reverse journal) ≡ false)

-- The cut of a sealed epoch runs to a state in which nobody runs and whose snapshot is the sealed one, and the other events run on from there to the journal's state.
pub record IsConsistentCut (sys : System) (start : SnapshotParts) (journal : List Event) (epoch : ℕ) (ws : BaseState) : Type 0 where
  pub before : Runs sys (base_state_of start) (cut_of start epoch journal) ws
  pub calm : (i : ℕ) → i < length start.parts → is_running (worker_at ws i) ≡ false
  pub sealed : sealed_snapshot sys start epoch journal ≡ Some (snapshot_of sys ws epoch)
  pub after : Runs sys ws (after_cut start epoch journal) (state_at_end sys start journal).workers

abbrev pub CutsAreConsistent : Type 0
CutsAreConsistent =
    (sys : System) (start : SnapshotParts) (journal : List Event) (epoch : ℕ) → IsLegal sys start journal → Contains journal (Seal epoch) →
    (ws : BaseState) × IsConsistentCut sys start journal epoch ws

-- Sealed epochs rise above the start's, and stay in range.
abbrev pub EpochsAreInRange : Type 0
EpochsAreInRange =
    (sys : System) (start : SnapshotParts) (journal : List Event) (epoch : ℕ) → IsLegal sys start journal → Contains journal (Seal epoch) → (start.epoch < epoch) × (epoch < 2 ^ 62)

-- From a start in the form a sealed snapshot is in the form.
abbrev pub SealedAreInForm : Type 0
SealedAreInForm =
    (sys : System) (start : SnapshotParts) (journal : List Event) (epoch : ℕ) (snapshot : SnapshotParts) → IsSound sys → IsInForm sys start → IsLegal sys start journal → Contains journal (Seal epoch) →
    sealed_snapshot sys start epoch journal ≡ Some snapshot → IsInForm sys snapshot

-- From a fit start the state of a cut is fit.
abbrev pub CutsAreFit : Type 0
CutsAreFit =
    (sys : System) (g : Assignment) (start : SnapshotParts) (journal : List Event) (epoch : ℕ) (ws : BaseState) → IsSound sys → IsGreatest sys.equations g → IsFit sys g (base_state_of start) → IsConsistentCut sys start journal epoch ws →
    IsFit sys g ws

-- From a fit start a sealed snapshot is a fit start.
abbrev pub SealedAreFit : Type 0
SealedAreFit =
    (sys : System) (g : Assignment) (start : SnapshotParts) (journal : List Event) (epoch : ℕ) (snapshot : SnapshotParts) → IsSound sys → IsGreatest sys.equations g → IsFit sys g (base_state_of start) →
    IsLegal sys start journal → Contains journal (Seal epoch) → sealed_snapshot sys start epoch journal ≡ Some snapshot → IsFit sys g (base_state_of snapshot)

-- Each sealed snapshot has the epoch after that of the one before, and the first the epoch after the start's.
abbrev pub EpochsFollow : Type 0
EpochsFollow = (sys : System) (start : SnapshotParts) (journal : List Event) → IsLegal sys start journal → FollowOn start.epoch (map (λ s. s.epoch) (sealed_snapshots sys start journal))

-- The snapshots that were sealed are those that are found by the epochs of the Seals.
abbrev pub SealedAreFound : Type 0
SealedAreFound =
    (sys : System) (start : SnapshotParts) (journal : List Event) (s : SnapshotParts) → IsLegal sys start journal →
    (Contains (sealed_snapshots sys start journal) s → Contains journal (Seal s.epoch) × (sealed_snapshot sys start s.epoch journal ≡ Some s))
    × (sealed_snapshot sys start s.epoch journal ≡ Some s → Contains (sealed_snapshots sys start journal) s)

-- A Seal adds the snapshot that is found by its epoch.
abbrev pub SealsAdd : Type 0
SealsAdd =
    (sys : System) (start : SnapshotParts) (journal : List Event) (s : SnapshotParts) → IsLegal sys start (journal ++ Seal s.epoch ∷ []) →
    sealed_snapshot sys start s.epoch (journal ++ Seal s.epoch ∷ []) ≡ Some s →
    sealed_snapshots sys start (journal ++ Seal s.epoch ∷ []) ≡ sealed_snapshots sys start journal ++ s ∷ []

-- What a lane chooses is admitted and concerns it, and where it chooses nothing no such event is admitted.
abbrev pub LaneChoicesAreExact : Type 0
LaneChoicesAreExact =
    (sys : System) (s : State) (lane : ℕ) (extra : ℕ → ℕ) → ((i : ℕ) → extra i ≤ 64) →
    ((e : Event) → next_choice sys s lane extra ≡ Some e → IsTrue (is_admitted sys s e) × IsTrue (is_of_lane lane e))
    × (next_choice sys s lane extra ≡ None → (e : Event) → IsTrue (is_of_lane lane e) → is_admitted sys s e ≡ false)

-- What the coordinator chooses is admitted and is a Seal, an End, a Begin or an Ask, and where it chooses nothing none of these is admitted.
abbrev pub DutiesAreExact : Type 0
DutiesAreExact =
    (sys : System) (s : State) →
    ((e : Event) → duty_choice sys s ≡ Some e → IsTrue (is_admitted sys s e) × IsTrue (is_duty e))
    × (duty_choice sys s ≡ None → (e : Event) → IsTrue (is_duty e) → is_admitted sys s e ≡ false)

-- Where a journal has not ended, nobody runs and what was sealed is kept, the coordinator or any one lane can go on.
abbrev pub OneLaneGoesOn : Type 0
OneLaneGoesOn =
    (sys : System) (start : SnapshotParts) (journal : List Event) (lane : ℕ) (extra : ℕ → ℕ) → lane < sys.settings.lanes → ((i : ℕ) → extra i ≤ 64) →
    IsLegal sys start journal → has_ended (reverse journal) ≡ false →
    ((i : ℕ) → i < length start.parts → is_running (worker_at (state_at_end sys start journal).workers i) ≡ false) →
    ((epoch : ℕ) → IsTrue (was_sealed epoch (reverse journal)) → IsTrue (was_kept epoch (reverse journal))) →
    duty_choice sys (state_at_end sys start journal) ≡ None →
    (e : Event) × (next_choice sys (state_at_end sys start journal) lane extra ≡ Some e)

-- A journal that has not ended can go on, by an event that is no Stop: the first that is admitted of Gives, Kepts, duties and what any one lane would do.
abbrev pub RunsGoOn : Type 0
RunsGoOn =
    (sys : System) (start : SnapshotParts) (journal : List Event) (lane : ℕ) (extra : ℕ → ℕ) → lane < sys.settings.lanes → ((i : ℕ) → extra i ≤ 64) →
    IsLegal sys start journal → has_ended (reverse journal) ≡ false →
    (e : Event) × (run_choice sys (state_at_end sys start journal) lane extra ≡ Some e) × IsTrue (is_admitted sys (state_at_end sys start journal) e) × (is_stop e ≡ false)

-- A legal journal has at most so many Takes.
abbrev pub TakesAreBounded : Type 0
TakesAreBounded =
    (sys : System) (start : SnapshotParts) (journal : List Event) → IsSound sys → IsInForm sys start → IsLegal sys start journal →
    count_by is_take journal ≤ bound_of sys

-- The Takes of a legal journal bound its length, whatever the system: so many events for each Take, and some more.
abbrev pub EventsFollowTakes : Type 0
EventsFollowTakes =
    (sys : System) (start : SnapshotParts) (journal : List Event) → IsLegal sys start journal →
    length journal ≤ (138 + 2 * length start.parts) * count_by is_take journal + 132 * length start.parts + 4

-- A legal journal has at most so many events, where there is a fragment.
abbrev pub EventsAreBounded : Type 0
EventsAreBounded =
    (sys : System) (start : SnapshotParts) (journal : List Event) → IsSound sys → IsInForm sys start → 1 ≤ length sys.pieces → IsLegal sys start journal →
    length journal ≤ (140 + 2 * length sys.pieces) * (bound_of sys + length sys.pieces)
