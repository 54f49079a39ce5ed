-- Where a job asks for no snapshots, none is sealed.
use Rattle.std.proofs.Common.{◌≡◌, ℕ, true, not, ◌&&◌, ◌==◌, refl, arith, None}
use Rattle.std.proofs.lemmas.Bool.{and_parts}
use Rattle.grape_event.specs.declared.event.Event.{Event}
use Rattle.grape_event.specs.declared.event.Event.TheVariants.{Take, Give, Stretch, Hold, Flag, Ask, Ack, Nack, Begin, Mark, Seal, Kept, End, Stop}
use Rattle.base_machine.specs.Machine.{System}
use Rattle.legal_journal.specs.Past.{has_ended, recording_is_open, all_are_marked, last_epoch}
use Rattle.legal_journal.specs.Legal.{State, start_state, state_after, worker_count, row_admits, may_seal}
use Rattle.legal_journal.proofs.Walks.{kept_along}
use Rattle.legal_journal.proofs.Choosing.{duties_are_exact}
use Rattle.hub_engine.specs.States.{machine, state_of, sealed_epoch}
use Rattle.hub_engine.proofs.Snapshots.{SnapshotsAreInTurn, turn_kept, begins_in_turn}
use Rattle.grape_hub.specs.Theorems.{NothingIsSealed}

-- a Seal needs an open recording, and so snapshots that are asked for
never_seals : (sys : System) (s : State) (epoch : ℕ) → sys.settings.snapshot ≡ 0 → SnapshotsAreInTurn sys s → row_admits sys s (Seal epoch) ≡ true → ⊥
never_seals sys s epoch none turn row =
    let parts = (and_parts (recording_is_open s.past && all_are_marked (worker_count s) s.past) (epoch == last_epoch s.start.epoch s.past) row).0 in
    let on = (and_parts (recording_is_open s.past) (all_are_marked (worker_count s) s.past) parts).0 in
    let asked = turn.asked on in
    absurd (omega (arith, asked, none))

abbrev IsUnsealed : System → State → Type 0
IsUnsealed sys s = SnapshotsAreInTurn sys s × (sys.settings.snapshot ≡ 0 → sealed_epoch s.past ≡ None)

stays_unsealed : (sys : System) (s : State) (e : Event) → row_admits sys s e ≡ true → IsUnsealed sys s → IsUnsealed sys (state_after sys s e)
stays_unsealed sys s (Take i k) h p = (turn_kept sys s (Take i k) h p.0, p.1)
stays_unsealed sys s (Give i) h p = (turn_kept sys s (Give i) h p.0, p.1)
stays_unsealed sys s (Stretch i t) h p = (turn_kept sys s (Stretch i t) h p.0, p.1)
stays_unsealed sys s (Hold i) h p = (turn_kept sys s (Hold i) h p.0, p.1)
stays_unsealed sys s (Flag i) h p = (turn_kept sys s (Flag i) h p.0, p.1)
stays_unsealed sys s Ask h p = (turn_kept sys s Ask h p.0, p.1)
stays_unsealed sys s (Ack i) h p = (turn_kept sys s (Ack i) h p.0, p.1)
stays_unsealed sys s (Nack i) h p = (turn_kept sys s (Nack i) h p.0, p.1)
stays_unsealed sys s (Begin d) h p = (turn_kept sys s (Begin d) h p.0, p.1)
stays_unsealed sys s (Mark i) h p = (turn_kept sys s (Mark i) h p.0, p.1)
stays_unsealed sys s (Seal d) h p = (turn_kept sys s (Seal d) h p.0, λ none. absurd (never_seals sys s d none p.0 h))
stays_unsealed sys s (Kept d) h p = (turn_kept sys s (Kept d) h p.0, λ none. refl)
stays_unsealed sys s End h p = (turn_kept sys s End h p.0, p.1)
stays_unsealed sys s (Stop c) h p = (turn_kept sys s (Stop c) h p.0, p.1)

pub nothing_is_sealed : NothingIsSealed
nothing_is_sealed h hub none =
    let sys = machine h in
    let s = state_of h in
    let kept = kept_along sys (IsUnsealed sys) (λ q e a p. stays_unsealed sys q e (and_parts (not (has_ended q.past)) (row_admits sys q e) a).1 p) h.journal.events (start_state h.start) hub.legal (begins_in_turn sys h.start, λ z. refl) in (
      kept.1 none,
      λ epoch chosen.
          let a = ((duties_are_exact sys s).0 (Seal epoch) chosen).0 in
          never_seals sys s epoch none kept.0 (and_parts (not (has_ended s.past)) (may_seal s epoch) a).1,
    )
