-- Takes, Stretches and events that change no worker keep the hub's tables fitting the state.
use Rattle.std.proofs.Common.{◌≡◌, ◌≢◌, ℕ, zero, suc, ◌+◌, ◌⊎◌, inl, inr, Bool, true, false, if◌then◌else◌, refl, sym, ◌∙◌, ap, subst, arith, List, [], ◌∷◌, length, take, slice_get, slice_set, slice_index, slice_index_or, length-set, Option, Some, None}
use Rattle.std.proofs.lemmas.Bool.{eq-eqb, ne_eqb, false≢true}
use Rattle.graph_core.specs.Fragments.{piece_at}
use Rattle.grape_event.specs.declared.event.Event.{Event}
use Rattle.grape_event.specs.declared.event.Event.TheVariants.{Take, Give, Stretch, Hold, Flag, Ask, Ack, Nack, Begin, Mark, Seal, Kept, End, Stop}
use Rattle.grape_event.specs.declared.event.StopCause.{StopCause}
use Rattle.base_machine.specs.Machine.{System, BaseState, Worker, worker_at, is_fresh, is_running}
use Rattle.legal_journal.specs.Past.{lane_of, stretch_of, recording_is_open, last_epoch, takes_since_begin}
use Rattle.legal_journal.specs.Past.{is_marked as was_marked}
use Rattle.legal_journal.specs.Delays.{window}
use Rattle.legal_journal.specs.Legal.{State, worker_count, no_part, state_after, workers_after, rounds_after, arrivals_after, recorded_after}
use Rattle.token_cut.specs.Parts.{PartValues, SnapshotParts}
use Rattle.token_cut.specs.CutValues.{CutValues}
use Rattle.legal_journal.specs.Choices.{first_in_turn}
use Rattle.legal_journal.proofs.Ledger.{takes-more}
use Rattle.legal_journal.proofs.Probes.{same_count}
use Rattle.stop_probe.specs.ProbeValues.{ProbeValues}
use Rattle.stop_probe.specs.Journals.{probe_of, probe_at, after_event}
use Rattle.stop_probe.proofs.Following.{follows_events}
use Rattle.hub_engine.specs.declared.desk.Desk.{Desk}
use Rattle.hub_engine.specs.declared.desk.Seat.{Seat}
use Rattle.hub_engine.specs.declared.desk.Seat.TheVariants.{Here, Out}
use Rattle.hub_engine.specs.States.{take_place, sealed_epoch}
use Rattle.hub_engine.specs.Desks.{DeskFits, SeatFits, Tables, TablesFit, CutFits, CountsFit, HasSizes, buffer_of, has_taken}
use Rattle.hub_engine.specs.Calls.{IsNote}

-- ---- a list with one element changed

-- what stands at place j of a list after another element was put at place i
pub set_cases : {X : Type 0} (xs : List X) (i j : ℕ) (y z : X) → slice_get (slice_set xs i y) j ≡ Some z → ((j ≡ i) × (z ≡ y)) ⊎ ((j ≢ i) × (slice_get xs j ≡ Some z))
set_cases {X = X} [] i j y z h = inr (λ e. absurd (none_some h), h)
  where
    none_some : None ≡ Some z → ⊥
    none_some h = false≢true (ap (λ (o : Option X). elim o as (λ _. Bool) [ None ↦ false | Some y ↦ true ]) h)
set_cases {X = X} (x ∷ xs) zero zero y z h = inl (refl, ap (λ (o : Option X). elim o as (λ _. X) [ None ↦ y | Some q ↦ q ]) (sym h))
set_cases (x ∷ xs) zero (suc j) y z h = inr (λ e. absurd (omega (arith, e)), h)
set_cases (x ∷ xs) (suc i) zero y z h = inr (λ e. absurd (omega (arith, e)), h)
set_cases (x ∷ xs) (suc i) (suc j) y z h = elim (set_cases xs i j y z h) [
  | inl k ↦ let e = k.0 in inl (omega (arith, e), k.1)
  | inr k ↦ inr (λ e. k.0 (omega (arith, e)), k.1)
]

-- ---- what doesn't change

pub same_seat : (sys : System) (s s' : State) (counters j : ℕ) (seat : Seat) → worker_at s'.workers j ≡ worker_at s.workers j → lane_of j s'.past ≡ lane_of j s.past → take_place j s'.past ≡ take_place j s.past →
    SeatFits sys s counters j seat → SeatFits sys s' counters j seat
same_seat sys s s' counters j (Here fresh local hand) w l t k =
    subst (λ (x : Worker). (is_running x ≡ false) × (fresh ≡ is_fresh x) × (local.values ≡ x.values) × (local.before ≡ take (length (piece_at sys.pieces j).owned) x.values) × (hand.order ≡ sys.equations.order)
    × HasSizes (piece_at sys.pieces j) counters local.before local.counters hand.values) (sym w) k
same_seat sys s s' counters j (Out lane place) w l t k = (ap (λ (x : Worker). is_running x) w ∙ k.0, l ∙ k.1, t ∙ k.2)

-- a desk fits on where its worker, its mail, its round, its arrivals and the words of the past on it stay
pub same_desk : (sys : System) (s s' : State) (counters j : ℕ) (d : Desk) → worker_at s'.workers j ≡ worker_at s.workers j → lane_of j s'.past ≡ lane_of j s.past → take_place j s'.past ≡ take_place j s.past →
    stretch_of j s'.past ≡ stretch_of j s.past → has_taken j s'.past ≡ has_taken j s.past → s'.rounds ≡ s.rounds → s'.arrivals ≡ s.arrivals → buffer_of sys s' j ≡ buffer_of sys s j → DeskFits sys s counters j d → DeskFits sys s' counters j d
same_desk sys s s' counters j d w l t st h r a b fits = record {
  seat = same_seat sys s s' counters j d.seat w l t fits.seat;
  delay = st ∙ fits.delay;
  round = fits.round ∙ ap (λ (rs : List ℕ). slice_index rs j) (sym r);
  pulse = fits.pulse ∙ ap (λ (ars : List (List ℕ)). window (slice_index_or ars j [])) (sym a);
  buffer = fits.buffer ∙ sym b;
  begun = fits.begun ∙ sym h;
}

-- the probe follows the journal
pub probe_fits : (sys : System) (s : State) (e : Event) (probe : ProbeValues) → probe ≡ probe_at s → after_event e probe ≡ probe_at (state_after sys s e)
probe_fits sys s e probe h =
    ap (λ (p : ProbeValues). after_event e p) h ∙ (sym ((follows_events (worker_count s)).1 s.past e) ∙ ap (λ n. probe_of n (e ∷ s.past)) (sym (same_count sys s e)))

-- a recording fits on where the words of the past on it, and what is recorded, stay
pub same_cut : (sys : System) (s s' : State) (cut : CutValues) → worker_count s' ≡ worker_count s → s'.start ≡ s.start → recording_is_open s'.past ≡ recording_is_open s.past → last_epoch s.start.epoch s'.past ≡ last_epoch s.start.epoch s.past →
    ((i : ℕ) → was_marked i s'.past ≡ was_marked i s.past) → s'.recorded ≡ s.recorded → CutFits sys s cut → CutFits sys s' cut
same_cut sys s s' cut n st o e m r fits = record {
  order = fits.order;
  sizes = fits.sizes;
  asked = fits.asked;
  recording = fits.recording ∙ sym o;
  epoch = λ on. fits.epoch on ∙ (sym e ∙ ap (λ (p : SnapshotParts). last_epoch p.epoch s'.past) (sym st));
  marks = λ on. fits.marks on ∙ sym n;
  marked = λ on i l. fits.marked on i (omega (arith, l, n)) ∙ sym (m i);
  parts = λ on i l k. fits.parts on i (omega (arith, l, n)) (sym (m i) ∙ k) ∙ ap (λ (ps : List PartValues). slice_index_or ps i no_part) (sym r);
}

-- a sum with nothing
pub no_take : {a b : ℕ} → a ≡ 0 + b → a ≡ b
no_take h = omega (arith, h)

-- ---- an event that changes no worker and no recording

-- the tables after an event that the probe alone hears of
abbrev pub heard_tables : Event → Tables → Tables
heard_tables e t = record { routes = t.routes; desks = t.desks; probe = after_event e t.probe; cut = t.cut; counts = t.counts; turn = t.turn }

-- the tables where the sealed epoch is kept
abbrev pub kept_in : Tables → Tables
kept_in t = record { routes = t.routes; desks = t.desks; probe = t.probe; cut = t.cut; counts = record { epoch = t.counts.epoch; takes = t.counts.takes; sealed = None }; turn = t.turn }

module _ (sys : System) (s : State) (counters : ℕ) (t : Tables) (fits : TablesFit sys s counters t) where
  noted : (e : Event) → workers_after sys s e ≡ s.workers → rounds_after sys s e ≡ s.rounds → arrivals_after sys s e ≡ s.arrivals → recorded_after sys s e ≡ s.recorded → ((j : ℕ) → lane_of j (e ∷ s.past) ≡ lane_of j s.past) →
      ((j : ℕ) → take_place j (e ∷ s.past) ≡ take_place j s.past) → ((j : ℕ) → stretch_of j (e ∷ s.past) ≡ stretch_of j s.past) → ((j : ℕ) → has_taken j (e ∷ s.past) ≡ has_taken j s.past) →
      ((j : ℕ) → buffer_of sys (state_after sys s e) j ≡ buffer_of sys s j) → ((n : ℕ) → first_in_turn n (e ∷ s.past) ≡ first_in_turn n s.past) →
      CutFits sys (state_after sys s e) t.cut → CountsFit (state_after sys s e) t.counts →
      TablesFit sys (state_after sys s e) counters (heard_tables e t)
  noted e w r a rec l tk st h b f cut counts = record {
    are_routes = fits.are_routes;
    count = fits.count ∙ sym (same_count sys s e);
    is_probe = probe_fits sys s e t.probe fits.is_probe;
    is_cut = cut;
    are_counts = counts;
    is_turn = fits.is_turn ∙ (ap (λ n. first_in_turn n s.past) (sym (same_count sys s e)) ∙ sym (f (worker_count (state_after sys s e))));
    fit = λ j d here. same_desk sys s (state_after sys s e) counters j d (ap (λ (ws : BaseState). worker_at ws j) w) (l j) (tk j) (st j) (h j) r a (b j) (fits.fit j d here);
  }

  cut_stays : (e : Event) → recording_is_open (e ∷ s.past) ≡ recording_is_open s.past → last_epoch s.start.epoch (e ∷ s.past) ≡ last_epoch s.start.epoch s.past → ((i : ℕ) → was_marked i (e ∷ s.past) ≡ was_marked i s.past) →
      recorded_after sys s e ≡ s.recorded → CutFits sys (state_after sys s e) t.cut
  cut_stays e o l m r = same_cut sys s (state_after sys s e) t.cut (same_count sys s e) refl o l m r fits.is_cut

  counts_stay : (e : Event) → last_epoch s.start.epoch (e ∷ s.past) ≡ last_epoch s.start.epoch s.past → takes_since_begin (e ∷ s.past) ≡ takes_since_begin s.past → sealed_epoch (e ∷ s.past) ≡ sealed_epoch s.past → CountsFit (state_after sys s e) t.counts
  counts_stay e l n k = record { epoch = fits.are_counts.epoch ∙ sym l; takes = fits.are_counts.takes ∙ sym n; sealed = fits.are_counts.sealed ∙ sym k }

  pub note_fits : (e : Event) → IsNote e → TablesFit sys (state_after sys s e) counters (heard_tables e t)
  note_fits (Take i k) h = absurd h
  note_fits (Give i) h = absurd h
  note_fits (Stretch i n) h = absurd h
  note_fits (Hold i) h =
      noted (Hold i) refl refl refl refl (λ j. refl) (λ j. refl) (λ j. refl) (λ j. refl) (λ j. refl) (λ n. refl) (cut_stays (Hold i) refl refl (λ j. refl) refl) (counts_stay (Hold i) refl (no_take (takes-more (Hold i) s.past)) refl)
  note_fits (Flag i) h =
      noted (Flag i) refl refl refl refl (λ j. refl) (λ j. refl) (λ j. refl) (λ j. refl) (λ j. refl) (λ n. refl) (cut_stays (Flag i) refl refl (λ j. refl) refl) (counts_stay (Flag i) refl (no_take (takes-more (Flag i) s.past)) refl)
  note_fits Ask h = noted Ask refl refl refl refl (λ j. refl) (λ j. refl) (λ j. refl) (λ j. refl) (λ j. refl) (λ n. refl) (cut_stays Ask refl refl (λ j. refl) refl) (counts_stay Ask refl (no_take (takes-more Ask s.past)) refl)
  note_fits (Ack i) h =
      noted (Ack i) refl refl refl refl (λ j. refl) (λ j. refl) (λ j. refl) (λ j. refl) (λ j. refl) (λ n. refl) (cut_stays (Ack i) refl refl (λ j. refl) refl) (counts_stay (Ack i) refl (no_take (takes-more (Ack i) s.past)) refl)
  note_fits (Nack i) h =
      noted (Nack i) refl refl refl refl (λ j. refl) (λ j. refl) (λ j. refl) (λ j. refl) (λ j. refl) (λ n. refl) (cut_stays (Nack i) refl refl (λ j. refl) refl) (counts_stay (Nack i) refl (no_take (takes-more (Nack i) s.past)) refl)
  note_fits (Begin e) h = absurd h
  note_fits (Mark i) h = absurd h
  note_fits (Seal e) h = absurd h
  note_fits (Kept e) h = absurd h
  note_fits End h = noted End refl refl refl refl (λ j. refl) (λ j. refl) (λ j. refl) (λ j. refl) (λ j. refl) (λ n. refl) (cut_stays End refl refl (λ j. refl) refl) (counts_stay End refl (no_take (takes-more End s.past)) refl)
  note_fits (Stop c) h = absurd h

  pub stop_fits : (c : StopCause) → TablesFit sys (state_after sys s (Stop c)) counters t
  stop_fits c =
      noted (Stop c) refl refl refl refl (λ j. refl) (λ j. refl) (λ j. refl) (λ j. refl) (λ j. refl) (λ n. refl) (cut_stays (Stop c) refl refl (λ j. refl) refl) (counts_stay (Stop c) refl (no_take (takes-more (Stop c) s.past)) refl)

  -- the tables after a Kept
  pub kept_fits : (epoch : ℕ) → TablesFit sys (state_after sys s (Kept epoch)) counters (record { routes = t.routes; desks = t.desks; probe = t.probe; cut = t.cut; counts = record { epoch = t.counts.epoch; takes = t.counts.takes; sealed = None }; turn = t.turn })
  kept_fits epoch =
      let e = Kept epoch in
      record {
        are_routes = fits.are_routes;
        count = fits.count;
        is_probe = probe_fits sys s e t.probe fits.is_probe;
        is_cut = cut_stays e refl refl (λ j. refl) refl;
        are_counts = record { epoch = fits.are_counts.epoch; takes = fits.are_counts.takes ∙ sym (no_take (takes-more e s.past)); sealed = refl };
        is_turn = fits.is_turn;
        fit = λ j d here. same_desk sys s (state_after sys s e) counters j d refl refl refl refl refl refl refl refl (fits.fit j d here);
      }

-- ---- a Stretch

-- the desk of a worker with a Stretch
abbrev pub stretched_desk : ℕ → ℕ → Desk → Desk
stretched_desk turns place d =
    record { seat = d.seat; delay = Some (record { turns = turns; place = place }); round = d.round; pulse = d.pulse; buffer = d.buffer; begun = d.begun }

-- the tables with another desk for worker i
abbrev pub desk_set : ℕ → Desk → Tables → Tables
desk_set i d t = record { routes = t.routes; desks = slice_set t.desks i d; probe = t.probe; cut = t.cut; counts = t.counts; turn = t.turn }

module _ (sys : System) (s : State) (counters : ℕ) (t : Tables) (i turns place : ℕ) (d : Desk) (fits : TablesFit sys s counters t) (here : slice_get t.desks i ≡ Some d) (at : place ≡ length s.past) where
  stretched_fits : DeskFits sys (state_after sys s (Stretch i turns)) counters i (stretched_desk turns place d)
  stretched_fits =
      let f = fits.fit i d here in
      record {
        seat = same_seat sys s (state_after sys s (Stretch i turns)) counters i d.seat refl refl refl f.seat;
        delay = ap (λ b. if b then Some (turns, length s.past) else stretch_of i s.past) (eq-eqb i i refl) ∙ ap (λ n. Some (turns, n)) (sym at);
        round = f.round;
        pulse = f.pulse;
        buffer = f.buffer;
        begun = f.begun;
      }

  stays : (j : ℕ) (e : Desk) → j ≢ i → slice_get t.desks j ≡ Some e → DeskFits sys (state_after sys s (Stretch i turns)) counters j e
  stays j e n h =
      same_desk sys s (state_after sys s (Stretch i turns)) counters j e refl refl refl (ap (λ b. if b then Some (turns, length s.past) else stretch_of j s.past) (ne_eqb j i n)) refl refl refl refl (fits.fit j e h)

  pub stretch_fits : TablesFit sys (state_after sys s (Stretch i turns)) counters (desk_set i (stretched_desk turns place d) t)
  stretch_fits = record {
    are_routes = fits.are_routes;
    count = length-set t.desks i _ ∙ fits.count;
    is_probe = probe_fits sys s (Stretch i turns) t.probe fits.is_probe;
    is_cut = same_cut sys s (state_after sys s (Stretch i turns)) t.cut refl refl refl refl (λ j. refl) refl fits.is_cut;
    are_counts = record { epoch = fits.are_counts.epoch; takes = fits.are_counts.takes ∙ sym (no_take (takes-more (Stretch i turns) s.past)); sealed = fits.are_counts.sealed };
    is_turn = fits.is_turn;
    fit = λ j e h. elim (set_cases t.desks i j (stretched_desk turns place d) e h) [
      | inl k ↦ subst (λ q. DeskFits sys (state_after sys s (Stretch i turns)) counters q e) (sym k.0) (subst (λ (q : Desk). DeskFits sys (state_after sys s (Stretch i turns)) counters i q) (sym k.1) stretched_fits)
      | inr k ↦ stays j e k.0 k.1
    ];
  }
