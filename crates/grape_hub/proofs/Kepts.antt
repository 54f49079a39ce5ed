-- What was kept follows what was sealed.
use Rattle.std.proofs.Common.{◌≡◌, ℕ, inl, inr, not, ◌&&◌, ◌==◌, IsTrue, ◌∙◌, ap, List, [], ◌∷◌, ◌++◌, map, Option, Some, None}
use Rattle.std.proofs.lemmas.List.{append-nil}
use Rattle.std.proofs.lemmas.Bool.{and_parts, not-true}
use Rattle.grape_event.specs.declared.event.Event.{Event}
use Rattle.grape_event.specs.declared.event.Event.TheVariants.{Seal, Kept}
use Rattle.token_cut.specs.Parts.{SnapshotParts}
use Rattle.base_machine.specs.Machine.{System}
use Rattle.legal_journal.specs.Past.{has_ended, last_epoch, recording_is_open, was_sealed, was_kept, all_are_marked}
use Rattle.legal_journal.specs.Legal.{State, start_state, state_after, state_after_all, worker_count, row_admits, is_admitted, are_admitted}
use Rattle.legal_journal.specs.Cuts.{snapshots_from, epochs_kept}
use Rattle.legal_journal.proofs.Listed.{sealed_are_found}
use Rattle.legal_journal.proofs.Probes.{both}
use Rattle.hub_engine.specs.States.{machine, sealed_epoch}
use Rattle.hub_engine.proofs.Snapshots.{SnapshotsAreInTurn, turn_kept, begins_in_turn}
use Rattle.grape_hub.specs.Theorems.{waiting_in, KeptsFollowSeals, CutsMayBeResumed}
use Rattle.grape_hub.proofs.Cuts.{sealed_may_be_resumed}

row_of : (sys : System) (s : State) (e : Event) → IsTrue (is_admitted sys s e) → IsTrue (row_admits sys s e)
row_of sys s e h = (and_parts (not (has_ended s.past)) (row_admits sys s e) h).1

-- nothing waits where a Seal is admitted, and what is kept waits
none_at_seal : (sys : System) (s : State) (d : ℕ) → IsTrue (row_admits sys s (Seal d)) → SnapshotsAreInTurn sys s → sealed_epoch s.past ≡ None
none_at_seal sys s d row p =
    let parts = and_parts (recording_is_open s.past && all_are_marked (worker_count s) s.past) (d == last_epoch s.start.epoch s.past) row in
    p.none (and_parts (recording_is_open s.past) (all_are_marked (worker_count s) s.past) parts.0).0

waits_at_kept : (sys : System) (s : State) (d : ℕ) → IsTrue (row_admits sys s (Kept d)) → SnapshotsAreInTurn sys s → sealed_epoch s.past ≡ Some d
waits_at_kept sys s d row p =
    let parts = and_parts (was_sealed d s.past) (not (was_kept d s.past)) row in
    elim (p.others d parts.0) [ inl k ↦ absurd (both k (not-true (was_kept d s.past) parts.1)) | inr k ↦ k ]

kepts : (sys : System) (journal : List Event) (s : State) → IsTrue (are_admitted sys s journal) → SnapshotsAreInTurn sys s
    → waiting_in (sealed_epoch s.past) ++ map (λ (x : SnapshotParts). x.epoch) (snapshots_from sys s journal) ≡ epochs_kept journal ++ waiting_in (sealed_epoch (state_after_all sys s journal).past)
kepts sys [] s h p = append-nil (waiting_in (sealed_epoch s.past))
kepts sys (Seal d ∷ journal) s h p =
    let two = and_parts (is_admitted sys s (Seal d)) _ h in
    let row = row_of sys s (Seal d) two.0 in
    ap (λ (w : Option ℕ). waiting_in w ++ d ∷ map (λ (x : SnapshotParts). x.epoch) (snapshots_from sys (state_after sys s (Seal d)) journal)) (none_at_seal sys s d row p)
    ∙ kepts sys journal (state_after sys s (Seal d)) two.1 (turn_kept sys s (Seal d) row p)
kepts sys (Kept d ∷ journal) s h p =
    let two = and_parts (is_admitted sys s (Kept d)) _ h in
    let row = row_of sys s (Kept d) two.0 in
    ap (λ (w : Option ℕ). waiting_in w ++ map (λ (x : SnapshotParts). x.epoch) (snapshots_from sys (state_after sys s (Kept d)) journal)) (waits_at_kept sys s d row p)
    ∙ ap (λ (es : List ℕ). d ∷ es) (kepts sys journal (state_after sys s (Kept d)) two.1 (turn_kept sys s (Kept d) row p))
kepts sys (e ∷ journal) s h p =
    let two = and_parts (is_admitted sys s e) _ h in
    kepts sys journal (state_after sys s e) two.1 (turn_kept sys s e (row_of sys s e two.0) p)

pub kepts_follow_seals : KeptsFollowSeals
kepts_follow_seals h k = kepts (machine h) h.journal.events (start_state h.start) k.legal (begins_in_turn (machine h) h.start)

-- ---- each may be resumed

pub cuts_may_be_resumed : CutsMayBeResumed
cuts_may_be_resumed h s hub c =
    let f = (sealed_are_found (machine h) h.start h.journal.events s hub.legal).0 c in
    sealed_may_be_resumed h s.epoch s hub f.0 f.1
