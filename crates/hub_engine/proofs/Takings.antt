-- What a hub's events but its Gives leave: a hub whose tables fit, and a Work where it is a Take.
use Rattle.std.proofs.Common.{◌≡◌, ℕ, ◌+◌, ◌-◌, ◌^◌, ◌≤◌, ◌<◌, ◌==◌, nat_lt, nat_le, Bool, true, false, not, ◌&&◌, IsTrue, reverse, refl, sym, ◌∙◌, ap, subst, arith, List, [], length, slice_get, slice_index_or, Some}
use Rattle.std.proofs.lemmas.Bool.{and_parts, and_from, not_from_false, ltb-true, false≢true}
use Rattle.std.proofs.lemmas.List.{length-reverse}
use Rattle.grape_event.specs.declared.event.Event.{Event}
use Rattle.grape_event.specs.declared.event.Event.TheVariants.{Take, Give, Stretch, Hold, Flag, Ask, Ack, Nack, Begin, Mark, Seal, Kept, End, Stop}
use Rattle.grape_event.specs.declared.event.StopCause.{StopCause}
use Rattle.base_machine.specs.Machine.{System, worker_at, batches_waiting}
use Rattle.message_buffer.specs.BufferValues.{BufferValues}
use Rattle.message_buffer.specs.Buffers.{batches_in}
use Rattle.std.proofs.lemmas.Option.{slice_get-get_or}
use Rattle.hub_engine.specs.declared.desk.Desk.{Desk}
use Rattle.legal_journal.specs.Past.{has_ended, last_epoch, takes_since_begin, recording_is_open, all_begun_are_kept}
use Rattle.legal_journal.specs.Legal.{State, worker_count, is_worker, is_admitted, state_after, stretch_from, snapshot_is_due, may_begin}
use Rattle.legal_journal.specs.Delays.{stretch_turns}
use Rattle.delay_stretch.proofs.Windows.{stretch_turns-window}
use Rattle.hub_engine.specs.HubValues.{HubValues}
use Rattle.hub_engine.specs.States.{machine, state_of, workers_of, works_out, events_owed, IsHub}
use Rattle.hub_engine.specs.Desks.{Tables, TablesFit}
use Rattle.hub_engine.specs.Calls.{Appended, IsNote}
use Rattle.hub_engine.proofs.Steps.{note_fits, stop_fits, stretch_fits, kept_fits, heard_tables, kept_in, desk_set, stretched_desk}
use Rattle.hub_engine.proofs.Classes.{batches_by_class}
use Rattle.hub_engine.proofs.Begins.{begin_fits, begun_in}
use Rattle.hub_engine.proofs.Snapshots.{snapshots_of, closed_where_kept}
use Rattle.hub_engine.proofs.Hubs.{past_of, counted_of, piece_count, workers_are, ended_is, same_machine, state_grown, hub_grown}

-- the tables of a hub, from those of its state after the event
pub moved : (old new : HubValues) (e : Event) (t : Tables) → Appended old e new → TablesFit (machine old) (state_after (machine old) (state_of old) e) old.counters t → TablesFit (machine new) (state_of new) old.counters t
moved old new e t more fits =
    subst (λ (sys : System). TablesFit sys (state_of new) old.counters t) (sym (same_machine old new e more))
    (subst (λ (s : State). TablesFit (machine old) s old.counters t) (sym (state_grown old new e more)) fits)

-- ---- an event that changes no worker and no recording

-- a note changes no worker, and owes no more room
note_words : (sys : System) (s : State) (e : Event) → IsNote e → events_owed (state_after sys s e) ≡ events_owed s
note_words sys s (Take i k) h = absurd h
note_words sys s (Give i) h = absurd h
note_words sys s (Stretch i t) h = absurd h
note_words sys s (Hold i) h = refl
note_words sys s (Flag i) h = refl
note_words sys s Ask h = refl
note_words sys s (Ack i) h = refl
note_words sys s (Nack i) h = refl
note_words sys s (Begin e) h = absurd h
note_words sys s (Mark i) h = absurd h
note_words sys s (Seal e) h = absurd h
note_words sys s (Kept e) h = absurd h
note_words sys s End h = refl
note_words sys s (Stop c) h = absurd h

module _ (old new : HubValues) (t : Tables) (e : Event) (kept : IsHub old) (fits : TablesFit (machine old) (state_of old) old.counters t) (more : Appended old e new) where
  pub note_tables : IsNote e → TablesFit (machine new) (state_of new) old.counters (heard_tables e t)
  note_tables h = moved old new e (heard_tables e t) more (note_fits (machine old) (state_of old) old.counters t fits e h)

  pub note_hub : IsNote e → IsTrue (is_admitted (machine old) (state_of old) e) → events_owed (state_of old) ≤ new.journal.spare → IsHub new
  note_hub h a room = let k = note_words (machine old) (state_of old) e h in hub_grown old new e more kept a (λ q. omega (arith, k, room))

-- the clock is the journal's length
pub clock_of : (h : HubValues) → length h.journal.events ≡ length (state_of h).past
clock_of h = sym (ap (λ (l : List Event). length l) (past_of h) ∙ length-reverse h.journal.events)

-- a desk that an index found
pub found_at : (desks : List Desk) (i : ℕ) (d : Desk) → i < length desks → d ≡ slice_index_or desks i d → slice_get desks i ≡ Some d
found_at desks i d h e = slice_get-get_or desks i d h ∙ ap (λ x. Some x) (sym e)

-- a worker whose event is admitted has a desk
pub worker_in_range : (sys : System) (s : State) (i : ℕ) (going row : Bool) → (going && (is_worker s i && row)) ≡ true → i < worker_count s
worker_in_range sys s i going row h = ltb-true i (worker_count s) (and_parts (is_worker s i) row (and_parts going (is_worker s i && row) h).1).0

-- ---- a Stretch

module _ (old new : HubValues) (t : Tables) (i turns : ℕ) (d : Desk) (kept : IsHub old) (fits : TablesFit (machine old) (state_of old) old.counters t) (here : slice_get t.desks i ≡ Some d) (more : Appended old (Stretch i turns) new) where
  pub stretched_hub : IsTrue (is_admitted (machine old) (state_of old) (Stretch i turns)) → events_owed (state_of old) ≤ new.journal.spare → IsHub new
  stretched_hub a room = hub_grown old new (Stretch i turns) more kept a (λ q. room)

  pub stretched_tables : (place : ℕ) → place ≡ length old.journal.events → TablesFit (machine new) (state_of new) old.counters (desk_set i (stretched_desk turns place d) t)
  stretched_tables place at =
      moved old new (Stretch i turns) (desk_set i (stretched_desk turns place d) t) more (stretch_fits (machine old) (state_of old) old.counters t i turns place d fits here (at ∙ clock_of old))

-- the turns of a Stretch are the least ones and what was added
pub turns_are : (old : HubValues) (t : Tables) (i : ℕ) (d : Desk) → IsHub old → TablesFit (machine old) (state_of old) old.counters t → slice_get t.desks i ≡ Some d → i < worker_count (state_of old) →
    stretch_turns old.job.settings.policy (batches_in d.buffer) d.pulse ≡ stretch_from (machine old) (state_of old) i
turns_are old t i d hub fits here inside =
    let f = fits.fit i d here in
    let policy = old.job.settings.policy in
    let arrivals = slice_index_or (state_of old).arrivals i [] in
    ap (λ (b : BufferValues). stretch_turns policy (batches_in b) d.pulse) f.buffer
    ∙ (ap (λ n. stretch_turns policy n d.pulse) (batches_by_class (machine old) (state_of old) i (counted_of old hub) inside)
    ∙ (ap (λ (l : List ℕ). stretch_turns policy (batches_waiting (worker_at (workers_of old) i)) l) f.pulse ∙ stretch_turns-window policy (batches_waiting (worker_at (workers_of old) i)) arrivals))

-- ---- a Kept

module _ (old new : HubValues) (t : Tables) (epoch : ℕ) (kept : IsHub old) (fits : TablesFit (machine old) (state_of old) old.counters t) (more : Appended old (Kept epoch) new) where
  pub kept_hub : IsTrue (is_admitted (machine old) (state_of old) (Kept epoch)) → works_out (workers_of old) + 1 ≤ new.journal.spare → IsHub new
  kept_hub a room = hub_grown old new (Kept epoch) more kept a (λ q. omega (arith, room))

  pub kept_tables : TablesFit (machine new) (state_of new) old.counters (kept_in t)
  kept_tables = moved old new (Kept epoch) (kept_in t) more (kept_fits (machine old) (state_of old) old.counters t fits epoch)

-- ---- a Begin

-- a snapshot is due at a Begin, and every one that was begun is kept
due_and_kept : (h : HubValues) (epoch : ℕ) → IsTrue (is_admitted (machine h) (state_of h) (Begin epoch)) → (snapshot_is_due (machine h) (state_of h) ≡ true) × (all_begun_are_kept (state_of h).past ≡ true)
due_and_kept h epoch a =
    let row = (and_parts (not (has_ended (state_of h).past)) (may_begin (machine h) (state_of h) epoch) a).1 in
    let parts = (and_parts (snapshot_is_due (machine h) (state_of h) && all_begun_are_kept (state_of h).past) (epoch == last_epoch (state_of h).start.epoch (state_of h).past + 1) row).0 in
    and_parts (snapshot_is_due (machine h) (state_of h)) (all_begun_are_kept (state_of h).past) parts

pub begin_closed : (h : HubValues) (epoch : ℕ) → IsHub h → IsTrue (is_admitted (machine h) (state_of h) (Begin epoch)) → recording_is_open (state_of h).past ≡ false
begin_closed h epoch hub a = closed_where_kept (machine h) (state_of h) (snapshots_of h hub) (due_and_kept h epoch a).1

begin_asked : (h : HubValues) (epoch : ℕ) → IsTrue (is_admitted (machine h) (state_of h) (Begin epoch)) → 1 ≤ h.job.settings.snapshot
begin_asked h epoch a =
    let every = h.job.settings.snapshot in
    let takes = takes_since_begin (state_of h).past in
    let low = nat_lt (last_epoch (state_of h).start.epoch (state_of h).past) (2 ^ 62 - 1) in
    ltb-true 0 every (and_parts (nat_lt 0 every) (nat_le every takes) (and_parts (nat_lt 0 every && nat_le every takes) low (due_and_kept h epoch a).0).0).0

module _ (old new : HubValues) (t : Tables) (epoch : ℕ) (kept : IsHub old) (fits : TablesFit (machine old) (state_of old) old.counters t) (a : IsTrue (is_admitted (machine old) (state_of old) (Begin epoch))) (more : Appended old (Begin epoch) new) where
  pub begun_hub : events_owed (state_of old) ≤ new.journal.spare → IsHub new
  begun_hub room = hub_grown old new (Begin epoch) more kept a (λ q. room)

  pub begun_tables : TablesFit (machine new) (state_of new) old.counters (begun_in epoch t)
  begun_tables = moved old new (Begin epoch) (begun_in epoch t) more (begin_fits (machine old) (state_of old) old.counters t epoch fits (begin_closed old epoch kept a) (begin_asked old epoch a) (piece_count old ∙ sym (workers_are old kept)))

-- ---- a Stop

module _ (old new : HubValues) (t : Tables) (cause : StopCause) (kept : IsHub old) (fits : TablesFit (machine old) (state_of old) old.counters t) (going : has_ended (reverse old.journal.events) ≡ false) (more : Appended old (Stop cause) new) where
  pub stopped_hub : IsHub new
  stopped_hub =
      hub_grown old new (Stop cause) more kept (and_from (not (has_ended (state_of old).past)) true (not_from_false (has_ended (state_of old).past) (ended_is old ∙ going)) refl) (λ q. absurd (false≢true (sym q)))

  pub stopped_tables : TablesFit (machine new) (state_of new) old.counters t
  stopped_tables = moved old new (Stop cause) t more (stop_fits (machine old) (state_of old) old.counters t fits cause)
