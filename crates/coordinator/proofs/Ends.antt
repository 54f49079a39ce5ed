-- A run in which a sealed snapshot waits doesn't end by End.
use Rattle.std.proofs.Common.{◌≡◌, not, ◌∙◌, ap, subst, List, None}
use Rattle.std.proofs.lemmas.Bool.{and_parts}
use Rattle.grape_event.specs.declared.event.Event.{Event}
use Rattle.grape_event.specs.declared.event.Event.TheVariants.{End}
use Rattle.legal_journal.specs.Past.{has_ended, all_have_answered, all_begun_are_kept}
use Rattle.legal_journal.specs.Legal.{State, start_state, state_at_end, worker_count, row_admits, IsLegal}
use Rattle.legal_journal.proofs.Walks.{kept_along, journals_grow}
use Rattle.hub_engine.specs.HubValues.{HubValues}
use Rattle.hub_engine.specs.States.{machine, state_of, sealed_epoch, IsHub}
use Rattle.hub_engine.proofs.Snapshots.{SnapshotsAreInTurn, turn_kept, begins_in_turn, none_where_kept}
use Rattle.coordinator.specs.Runs.{EndsBy}

-- an End is admitted only where all that was begun is kept
pub nothing_waits_at_end : (h : HubValues) → IsHub h → EndsBy End h.journal.events → sealed_epoch (state_of h).past ≡ None
nothing_waits_at_end h hub ends =
    let sys = machine h in
    let before = state_at_end sys h.start ends.0 in
    let legal = (journals_grow sys h.start ends.0 End).2.0 (subst (λ (es : List Event). IsLegal sys h.start es) ends.1 hub.legal) in
    let turn : SnapshotsAreInTurn sys before =
    kept_along sys (SnapshotsAreInTurn sys) (λ s e a p. turn_kept sys s e (and_parts (not (has_ended s.past)) (row_admits sys s e) a).1 p) ends.0 (start_state h.start) legal.0 (begins_in_turn sys h.start) in
    let row = (and_parts (not (has_ended before.past)) (row_admits sys before End) legal.1).1 in
    let kept = (and_parts (all_have_answered (worker_count before) before.past) (all_begun_are_kept before.past) row).1 in
    ap (λ (es : List Event). sealed_epoch (state_at_end sys h.start es).past) ends.1
    ∙ (ap (λ (s : State). sealed_epoch s.past) (journals_grow sys h.start ends.0 End).1 ∙ none_where_kept sys before turn kept)
