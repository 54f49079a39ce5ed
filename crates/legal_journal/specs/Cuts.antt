-- The cut that a sealed snapshot is of.
use Rattle.std.specs.Prelude.{◌≡◌, ℕ, ◌+◌, Bool, false, not, ◌==◌, ◌&&◌, ◌||◌, if◌then◌else◌, List, [], ◌∷◌, Option, Some, None, length}
use Rattle.grape_event.specs.declared.event.Event.{Event}
use Rattle.grape_event.specs.declared.event.Event.TheVariants.{Take, Give, Mark, Seal, Kept}
use Rattle.token_cut.specs.Parts.{SnapshotParts}
use Rattle.base_machine.specs.Machine.{System, BaseEvent}
use Rattle.legal_journal.specs.Past.{last_epoch}
use Rattle.legal_journal.specs.BaseEvents.{base_events_where}
use Rattle.legal_journal.specs.Legal.{State, start_state, state_after}

-- there is a Mark of worker i in this epoch; the journal begins at epoch first
abbrev pub is_marked_in : ℕ → ℕ → ℕ → List Event → Bool
is_marked_in first epoch i [] = false
is_marked_in first epoch i (Mark j ∷ past) = (i == j && last_epoch first past == epoch) || is_marked_in first epoch i past
is_marked_in first epoch i (_ ∷ past) = is_marked_in first epoch i past

-- the event is a worker's Take or Give after its Mark in this epoch
abbrev pub is_after_mark : ℕ → ℕ → Event → List Event → Bool
is_after_mark first epoch (Take i k) past = is_marked_in first epoch i past
is_after_mark first epoch (Give i) past = is_marked_in first epoch i past
is_after_mark first epoch _ past = false

-- The base events before their worker's Mark in this epoch, and the others. Both keep the journal's order, and a Take reaches the Gives that stood before it in the whole journal.
abbrev pub cut_of : SnapshotParts → ℕ → List Event → List BaseEvent
cut_of start epoch journal = base_events_where (λ e past. not (is_after_mark start.epoch epoch e past)) (length start.parts) [] journal

abbrev pub after_cut : SnapshotParts → ℕ → List Event → List BaseEvent
after_cut start epoch journal = base_events_where (is_after_mark start.epoch epoch) (length start.parts) [] journal

-- what was recorded when this epoch was sealed
abbrev pub sealed_from : System → State → ℕ → List Event → Option SnapshotParts
sealed_from sys s epoch [] = None
sealed_from sys s epoch (Seal d ∷ journal) =
    if d == epoch then Some (record { epoch = epoch; parts = s.recorded }) else sealed_from sys (state_after sys s (Seal d)) epoch journal
sealed_from sys s epoch (e ∷ journal) = sealed_from sys (state_after sys s e) epoch journal

abbrev pub sealed_snapshot : System → SnapshotParts → ℕ → List Event → Option SnapshotParts
sealed_snapshot sys start epoch journal = sealed_from sys (start_state start) epoch journal

-- ---- all that was sealed, and all that was kept

-- the snapshots that were sealed, in order, each as it was recorded
abbrev pub snapshots_from : System → State → List Event → List SnapshotParts
snapshots_from sys s [] = []
snapshots_from sys s (Seal e ∷ journal) = record { epoch = e; parts = s.recorded } ∷ snapshots_from sys (state_after sys s (Seal e)) journal
snapshots_from sys s (e ∷ journal) = snapshots_from sys (state_after sys s e) journal

abbrev pub sealed_snapshots : System → SnapshotParts → List Event → List SnapshotParts
sealed_snapshots sys start journal = snapshots_from sys (start_state start) journal

-- the epochs that were kept, in the order of the list
abbrev pub epochs_kept : List Event → List ℕ
epochs_kept [] = []
epochs_kept (Kept e ∷ journal) = e ∷ epochs_kept journal
epochs_kept (_ ∷ journal) = epochs_kept journal

-- each epoch is one more than the one before it
abbrev pub FollowOn : ℕ → List ℕ → Type 0
FollowOn last [] = Unit {0}
FollowOn last (e ∷ epochs) = (e ≡ last + 1) × FollowOn e epochs
