-- What every hub keeps, and how it grows by an event.
use Rattle.std.proofs.Common.{◌≡◌, ℕ, suc, ◌+◌, ◌<◌, ◌≤◌, true, false, cond, IsTrue, refl, sym, ◌∙◌, ap, subst, arith, List, [], ◌∷◌, length, reverse, slice_get, slice_set, slice_index_or, count_by, sum_by, Some}
use Rattle.std.specs.List.{AllZip}
use Rattle.std.proofs.lemmas.List.{reverse-append}
use Rattle.std.proofs.lemmas.List.Sums.{sum_by-cons, sum_by-set}
use Rattle.std.proofs.lemmas.Bool.{and_parts}
use Rattle.std.proofs.lemmas.List.{length-map}
use Rattle.std.proofs.lemmas.List.FromFn.{length-range_with_len}
use Rattle.graph_core.specs.Fragments.{numbers_below, piece_of}
use Rattle.graph_core.specs.declared.job.Job.{Job}
use Rattle.graph_core.specs.Graphs.{IsJob}
use Rattle.grape_event.specs.declared.event.Event.{Event}
use Rattle.grape_event.specs.declared.event.Event.TheVariants.{End}
use Rattle.base_machine.specs.Machine.{System, system_of, BaseState, Worker, worker_at, is_running, no_worker}
use Rattle.base_machine.specs.Fitness.{IsInForm, IsPartInForm}
use Rattle.token_cut.specs.Parts.{SnapshotParts}
use Rattle.legal_journal.specs.Past.{has_ended}
use Rattle.grape_event.specs.Events.{is_last}
use Rattle.legal_journal.specs.Legal.{State, start_state, state_at_end, state_after, worker_count, is_admitted, IsLegal}
use Rattle.legal_journal.proofs.Walks.{kept_along, journals_grow}
use Rattle.legal_journal.proofs.Journals.{AreCounted, event_counted, start_counted, counted_here}
use Rattle.hub_engine.specs.declared.desk.Desk.{Desk}
use Rattle.hub_engine.specs.declared.desk.Seat.{Seat}
use Rattle.hub_engine.specs.declared.desk.Seat.TheVariants.{Here, Out}
use Rattle.hub_engine.specs.HubValues.{HubValues}
use Rattle.hub_engine.specs.States.{machine, state_of, works_out, events_owed, IsHub}
use Rattle.hub_engine.specs.Desks.{DeskFits, SeatFits, Tables, TablesFit, is_out}
use Rattle.hub_engine.specs.Calls.{Appended}

-- ---- what holds of the state

pub past_of : (h : HubValues) → (state_of h).past ≡ reverse h.journal.events
past_of h = (journals_grow (machine h) h.start h.journal.events End).0

-- the state's journal has ended where the hub's has
pub ended_is : (h : HubValues) → has_ended (state_of h).past ≡ has_ended (reverse h.journal.events)
ended_is h = ap (λ (past : List Event). has_ended past) (past_of h)

pub counted_of : (h : HubValues) → IsHub h → AreCounted (worker_count (state_of h)) (state_of h)
counted_of h k =
    let n = length h.start.parts in
    counted_here n (state_of h)
    (kept_along (machine h) (AreCounted n) (λ s e a c. event_counted n (machine h) s e (and_parts _ _ a).1 c) h.journal.events (start_state h.start) k.legal (start_counted h.start))

pub zipped_length : {X Y : Type 0} (P : X → Y → Type 0) (xs : List X) (ys : List Y) → AllZip P xs ys → length xs ≡ length ys
zipped_length P [] [] h = refl
zipped_length P [] (y ∷ ys) h = absurd h
zipped_length P (x ∷ xs) [] h = absurd h
zipped_length P (x ∷ xs) (y ∷ ys) h = let e = zipped_length P xs ys h.1 in omega (arith, e)

pub piece_count : (h : HubValues) → length (machine h).pieces ≡ h.job.settings.fragments
piece_count h = length-map (numbers_below h.job.settings.fragments) (piece_of h.job) ∙ length-range_with_len 0 h.job.settings.fragments

-- a part for each fragment
pub part_count : (h : HubValues) → IsHub h → length h.start.parts ≡ h.job.settings.fragments
part_count h k = sym (zipped_length (IsPartInForm (machine h)) (machine h).pieces h.start.parts k.start.parts) ∙ piece_count h

-- as many workers as fragments
pub workers_are : (h : HubValues) → IsHub h → worker_count (state_of h) ≡ h.job.settings.fragments
workers_are h k =
    let n = length h.start.parts in
    (kept_along (machine h) (AreCounted n) (λ s e a c. event_counted n (machine h) s e (and_parts _ _ a).1 c) h.journal.events (start_state h.start) k.legal (start_counted h.start)).count ∙ part_count h k

pub few_workers : (h : HubValues) → IsHub h → worker_count (state_of h) ≤ 64
few_workers h k = let w = workers_are h k in let f = k.job.settings.fragments.1 in omega (arith, w, f)

-- ---- one event more

module _ (old new : HubValues) (e : Event) (more : Appended old e new) where
  pub same_machine : machine new ≡ machine old
  same_machine = ap (λ (job : Job). system_of job) more.0

  pub state_grown : state_of new ≡ state_after (machine old) (state_of old) e
  state_grown =
      ap (λ (job : Job). state_at_end (system_of job) new.start new.journal.events) more.0
      ∙ (ap (λ (start : SnapshotParts). state_at_end (machine old) start new.journal.events) more.3
      ∙ (ap (λ l. state_at_end (machine old) old.start l) more.2 ∙ (journals_grow (machine old) old.start old.journal.events e).1))

  -- the journal has ended where the event is a last one
  pub ends_with : has_ended (reverse new.journal.events) ≡ is_last e
  ends_with = ap (λ (es : List Event). has_ended (reverse es)) more.2 ∙ ap (λ (es : List Event). has_ended es) (reverse-append old.journal.events (e ∷ []))

  pub hub_grown : IsHub old → IsTrue (is_admitted (machine old) (state_of old) e) → (is_last e ≡ false → events_owed (state_after (machine old) (state_of old) e) ≤ new.journal.spare) → IsHub new
  hub_grown k a room = record {
    job = subst IsJob (sym more.0) k.job;
    start = subst (λ (job : Job). IsInForm (system_of job) new.start) (sym more.0) (subst (λ (start : SnapshotParts). IsInForm (machine old) start) (sym more.3) k.start);
    legal = subst (λ (job : Job). IsLegal (system_of job) new.start new.journal.events) (sym more.0)
        (subst (λ (start : SnapshotParts). IsLegal (machine old) start new.journal.events) (sym more.3)
        (subst (IsLegal (machine old) old.start) (sym more.2) ((journals_grow (machine old) old.start old.journal.events e).2.1 (k.legal, a))));
    room = λ going. let r = room (sym ends_with ∙ going) in let g = ap {B = ℕ} (λ (s : State). events_owed s) state_grown in omega (arith, r, g);
  }

-- ---- how many are out

one : Worker → ℕ
one w = cond (is_running w) 1 0

pub out_set : (ws : BaseState) (i : ℕ) (w : Worker) → i < length ws → works_out (slice_set ws i w) + cond (is_running (worker_at ws i)) 1 0 ≡ works_out ws + cond (is_running w) 1 0
out_set ws i w h = sum_by-set (λ (x : Worker). cond (is_running x) 1 0) ws i w no_worker h

seat_out : (sys : System) (s : State) (counters i : ℕ) (d : Desk) → DeskFits sys s counters i d → is_out d ≡ is_running (worker_at s.workers i)
seat_out sys s counters i d f = go d.seat f.seat
  where
    go : (seat : Seat) → SeatFits sys s counters i seat → elim seat [ Here fresh local hand ↦ false | Out lane place ↦ true ] ≡ is_running (worker_at s.workers i)
    go (Here fresh local hand) k = sym k.0
    go (Out lane place) k = sym k.0

counts_same : (desks : List Desk) (ws : BaseState) → length desks ≡ length ws → ((i : ℕ) (d : Desk) → slice_get desks i ≡ Some d → is_out d ≡ is_running (slice_index_or ws i no_worker)) → count_by is_out desks ≡ count_by is_running ws
counts_same [] [] e h = refl
counts_same [] (w ∷ ws) e h = absurd (omega (arith, e))
counts_same (d ∷ desks) [] e h = absurd (omega (arith, e))
counts_same (d ∷ desks) (w ∷ ws) e h =
    let a = sum_by-cons (λ (x : Desk). cond (is_out x) 1 0) d desks in
    let b = sum_by-cons (λ (x : Worker). cond (is_running x) 1 0) w ws in
    let c = ap {B = ℕ} (λ t. cond t 1 0) (h 0 d refl) in
    let r = counts_same desks ws (omega (arith, e)) (λ i x g. h (suc i) x g) in
    a ∙ (ap (λ n. n + sum_by (λ (x : Desk). cond (is_out x) 1 0) desks) c ∙ (ap (λ n. cond (is_running w) 1 0 + n) r ∙ sym b))

pub out_is : (sys : System) (s : State) (counters : ℕ) (t : Tables) → TablesFit sys s counters t → count_by is_out t.desks ≡ works_out s.workers
out_is sys s counters t f = counts_same t.desks s.workers f.count (λ i d g. seat_out sys s counters i d (f.fit i d g))
