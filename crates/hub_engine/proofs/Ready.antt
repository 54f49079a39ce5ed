-- A Work that a lane took may be evaluated.
use Rattle.std.proofs.Common.{◌≡◌, ◌≢◌, ℕ, ◌+◌, ◌*◌, ◌<◌, inl, inr, Bool, true, false, not, ◌==◌, ◌||◌, if◌then◌else◌, refl, sym, ◌∙◌, ap, subst, arith, [], ◌∷◌, ◌++◌, length, slice_index}
use Rattle.std.proofs.lemmas.Bool.{cases_eq, eq-eqb, ne_eqb, false≢true}
use Rattle.std.proofs.lemmas.List.{get_or-set_same}
use Rattle.std.proofs.lemmas.List.FromFn.{get_or-map-range_with_len}
use Rattle.graph_core.specs.Queries.{equations_of}
use Rattle.graph_core.specs.Fragments.{Piece, piece_at, piece_of, no_piece, places, fragment_of, numbers_below}
use Rattle.graph_core.proofs.Cutting.{stands_left}
use Rattle.grape_event.specs.declared.event.Event.{Event}
use Rattle.grape_event.specs.declared.event.Event.TheVariants.{Take, Give, Stretch, Hold, Flag, Ask, Ack, Nack, Begin, Mark, Seal, Kept, End, Stop}
use Rattle.pie_core.specs.Solutions.{AllBelow, OwnEquationsHold, lowered, starts_of}
use Rattle.pie_core.proofs.Existence.{local_solution-computed}
use Rattle.base_machine.specs.Machine.{System, BaseState, Worker, BaseEvent, BaseTake, BaseGive, no_worker, worker_at, is_running, hand_of, sent_to, after_taking, after_giving, after_receiving, base_after}
use Rattle.base_machine.specs.Theorems.{IsSound}
use Rattle.base_machine.proofs.Swapping.{after-length, after-at, worker_of_event, as_before}
use Rattle.legal_journal.specs.Legal.{State, start_state, state_after, worker_count}
use Rattle.legal_journal.specs.Past.{gives_of_each}
use Rattle.legal_journal.proofs.Walks.{kept_along, state_after_all-append}
use Rattle.legal_journal.proofs.Probes.{both, start_length}
use Rattle.legal_journal.proofs.Cutting.{running_same}
use Rattle.hub_engine.specs.declared.work.Work.{Work}
use Rattle.hub_engine.specs.HubValues.{HubValues}
use Rattle.hub_engine.specs.States.{machine, state_of, workers_of, IsHub}
use Rattle.hub_engine.specs.Desks.{has_taken}
use Rattle.hub_engine.specs.Calls.{Appended, IsWork, IsReady}
use Rattle.hub_engine.proofs.Hubs.{piece_count, part_count, workers_are}
use Rattle.hub_engine.proofs.Formed.{sound, formed}

-- ---- what holds of each worker of a hub

pub worker_in_range : (h : HubValues) → IsHub h → (i : ℕ) → i < worker_count (state_of h) → i < h.job.settings.fragments
worker_in_range h hub i l = let count = workers_are h hub in omega (arith, l, count)

pub piece_is : (h : HubValues) (i : ℕ) → i < h.job.settings.fragments → piece_at (machine h).pieces i ≡ piece_of h.job i
piece_is h i l = get_or-map-range_with_len (piece_of h.job) 0 h.job.settings.fragments i i no_piece l (omega arith)

pub values_below_start : (h : HubValues) → IsHub h → (i : ℕ) → i < worker_count (state_of h) →
    AllBelow (equations_of h.job).order (worker_at (workers_of h) i).values (starts_of (equations_of h.job) ((fragment_of h.job i).owned ++ (fragment_of h.job i).mirrors))
values_below_start h hub i l =
    let e = equations_of h.job in
    let P : Piece → Type 0 = λ piece. AllBelow e.order (worker_at (workers_of h) i).values (starts_of e (places piece)) in
    subst P (piece_is h i (worker_in_range h hub i l)) (formed h hub i l).values

-- ---- who took before has a local solution

-- the values lie below their own equations
abbrev IsSolvedFor : System → Piece → Worker → Type 0
IsSolvedFor sys piece w = OwnEquationsHold sys.equations piece.owned piece.mirrors w.values

-- A worker that took in this journal and isn't running has given since.
record AreSolved (sys : System) (s : State) : Type 0 where
  count : length sys.pieces ≡ worker_count s
  each : (i : ℕ) → i < worker_count s → has_taken i s.past ≡ true → is_running (worker_at s.workers i) ≡ false → IsSolvedFor sys (piece_at sys.pieces i) (worker_at s.workers i)

given_is_solved : (sys : System) → IsSound sys → (i : ℕ) → i < length sys.pieces → (w : Worker) → IsSolvedFor sys (piece_at sys.pieces i) (after_giving sys (piece_at sys.pieces i) w)
given_is_solved sys sound i l w =
    let piece = piece_at sys.pieces i in
    (local_solution-computed sys.equations piece.owned piece.mirrors (lowered sys.equations piece.owned w.values (hand_of w)) sound.lawful
    (λ p h.
    let s = stands_left piece.owned piece.mirrors p (slice_index piece.owned p) (h, refl) in
    let P : ℕ → Type 0 = λ v. v < sys.equations.count in
    subst P s.1 (sound.cut.in_range i p l s.0))).candidate.equations

-- an event of another worker leaves what is solved
still_solved : (sys : System) (ws : BaseState) (e : BaseEvent) (i : ℕ) → i < length ws → i ≢ worker_of_event e →
    (is_running (worker_at ws i) ≡ false → IsSolvedFor sys (piece_at sys.pieces i) (worker_at ws i)) →
    is_running (worker_at (base_after sys ws e) i) ≡ false → IsSolvedFor sys (piece_at sys.pieces i) (worker_at (base_after sys ws e) i)
still_solved sys ws e i l n before calm =
    let piece = piece_at sys.pieces i in
    let k = as_before sys ws e i l n in
    subst (OwnEquationsHold sys.equations piece.owned piece.mirrors) (sym k.values) (before (sym (running_same (worker_at ws i) (worker_at (base_after sys ws e) i) k.standing) ∙ calm))

module _ (sys : System) (sound : IsSound sys) (s : State) (p : AreSolved sys s) where
  take_solved : (j k : ℕ) → AreSolved sys (state_after sys s (Take j k))
  take_solved j k = record { count = p.count ∙ sym long; each = each }
    where
      b : BaseEvent
      b = BaseTake j (gives_of_each (numbers_below (worker_count s)) s.past)

      long : length (base_after sys s.workers b) ≡ worker_count s
      long = after-length sys s.workers b

      each : (i : ℕ) → i < length (base_after sys s.workers b) → ((i == j) || has_taken i s.past) ≡ true → is_running (worker_at (base_after sys s.workers b) i) ≡ false →
          IsSolvedFor sys (piece_at sys.pieces i) (worker_at (base_after sys s.workers b) i)
      each i l took calm =
          let below : i < worker_count s = omega (arith, l, long) in
          elim (cases_eq i j) [
            | inl e ↦ absurd (both
                (ap (λ (w : Worker). is_running w) (after-at sys s.workers b i below)
                ∙ ap (λ q. is_running (if q then after_taking sys (piece_at sys.pieces j) (gives_of_each (numbers_below (worker_count s)) s.past) (worker_at s.workers i) else worker_at s.workers i)) (eq-eqb i j e)) calm)
            | inr n ↦ still_solved sys s.workers b i below n (p.each i below (sym (ap (λ q. q || has_taken i s.past) (ne_eqb i j n)) ∙ took)) calm
          ]

  give_solved : (j : ℕ) → AreSolved sys (state_after sys s (Give j))
  give_solved j = record { count = p.count ∙ sym long; each = each }
    where
      long : length (base_after sys s.workers (BaseGive j)) ≡ worker_count s
      long = after-length sys s.workers (BaseGive j)

      each : (i : ℕ) → i < length (base_after sys s.workers (BaseGive j)) → has_taken i s.past ≡ true → is_running (worker_at (base_after sys s.workers (BaseGive j)) i) ≡ false →
          IsSolvedFor sys (piece_at sys.pieces i) (worker_at (base_after sys s.workers (BaseGive j)) i)
      each i l took calm =
          let below : i < worker_count s = omega (arith, l, long) in
          let c = p.count in
          elim (cases_eq i j) [
            | inl e ↦
                let here : worker_at (base_after sys s.workers (BaseGive j)) i ≡ after_giving sys (piece_at sys.pieces j) (worker_at s.workers i) =
                after-at sys s.workers (BaseGive j) i below
                ∙ ap (λ q. if q then after_giving sys (piece_at sys.pieces j) (worker_at s.workers i) else after_receiving j ((worker_at s.workers j).gives + 1) (sent_to sys (piece_at sys.pieces j) (worker_at s.workers j) i) (worker_at s.workers i)) (eq-eqb i j e) in
                subst (IsSolvedFor sys (piece_at sys.pieces i)) (sym (here ∙ ap (λ q. after_giving sys (piece_at sys.pieces q) (worker_at s.workers i)) (sym e)))
                (given_is_solved sys sound i (omega (arith, below, c)) (worker_at s.workers i))
            | inr n ↦ still_solved sys s.workers (BaseGive j) i below n (p.each i below took) calm
          ]

  solved_kept : (e : Event) → AreSolved sys (state_after sys s e)
  solved_kept (Take j k) = take_solved j k
  solved_kept (Give j) = give_solved j
  solved_kept (Stretch j t) = record { count = p.count; each = p.each }
  solved_kept (Hold j) = record { count = p.count; each = p.each }
  solved_kept (Flag j) = record { count = p.count; each = p.each }
  solved_kept Ask = record { count = p.count; each = p.each }
  solved_kept (Ack j) = record { count = p.count; each = p.each }
  solved_kept (Nack j) = record { count = p.count; each = p.each }
  solved_kept (Begin e) = record { count = p.count; each = p.each }
  solved_kept (Mark j) = record { count = p.count; each = p.each }
  solved_kept (Seal e) = record { count = p.count; each = p.each }
  solved_kept (Kept e) = record { count = p.count; each = p.each }
  solved_kept End = record { count = p.count; each = p.each }
  solved_kept (Stop c) = record { count = p.count; each = p.each }

pub equations_hold : (h : HubValues) → IsHub h → (i : ℕ) → i < worker_count (state_of h) → has_taken i (state_of h).past ≡ true → is_running (worker_at (workers_of h) i) ≡ false →
    OwnEquationsHold (equations_of h.job) (fragment_of h.job i).owned (fragment_of h.job i).mirrors (worker_at (workers_of h) i).values
equations_hold h hub i l took calm =
    let sys = machine h in
    let a = piece_count h in
    let b = part_count h hub in
    let c = start_length h.start in
    let start : AreSolved sys (start_state h.start) = record { count = omega (arith, a, b, c); each = λ i l took. absurd (false≢true took) } in
    let P : Piece → Type 0 = λ piece. IsSolvedFor sys piece (worker_at (workers_of h) i) in
    let all = kept_along sys (AreSolved sys) (λ s e admitted p. solved_kept sys (sound h hub) s p e) h.journal.events (start_state h.start) hub.legal start in
    subst P (piece_is h i (worker_in_range h hub i l)) (all.each i l took calm)

-- ---- after a Take

-- a hub after one more event, with so much room
abbrev pub with_event : HubValues → Event → ℕ → HubValues
with_event old e spare = record { job = old.job; counters = old.counters; start = old.start; journal = record { events = old.journal.events ++ e ∷ []; spare = spare } }

-- a Take leaves its worker's values
values_kept : (old : HubValues) (i lane spare : ℕ) → i < worker_count (state_of old) → (worker_at (workers_of (with_event old (Take i lane) spare)) i).values ≡ (worker_at (workers_of old) i).values
values_kept old i lane spare l =
    let s = state_of old in
    let taken = after_taking (machine old) (piece_at (machine old).pieces i) (gives_of_each (numbers_below (worker_count s)) s.past) (worker_at s.workers i) in
    ap (λ (t : State). (worker_at t.workers i).values) (state_after_all-append (machine old) old.journal.events (Take i lane ∷ []) (start_state old.start))
    ∙ ap (λ (w : Worker). w.values) (get_or-set_same s.workers i taken no_worker l)

ready_with : (old : HubValues) (lane spare : ℕ) (work : Work) → IsHub old → work.worker < worker_count (state_of old) → is_running (worker_at (workers_of old) work.worker) ≡ false →
    IsWork (with_event old (Take work.worker lane) spare) lane (not (has_taken work.worker (state_of old).past)) work → IsReady (with_event old (Take work.worker lane) spare) work
ready_with old lane spare work hub l calm w =
    let i = work.worker in
    let e = equations_of old.job in
    let part = fragment_of old.job i in
    let i_in = worker_in_range old hub i l in
    let piece = piece_is old i i_in in
    let values : (worker_at (workers_of old) i).values ≡ work.local.values = sym (w.values ∙ values_kept old i lane spare l) in
    record {
      first = record {
        number = i_in;
        is_part = refl;
        below_start = subst (λ xs. AllBelow e.order xs (starts_of e (part.owned ++ part.mirrors))) values (values_below_start old hub i l);
        owned = w.sizes.owned ∙ ap (λ (p : Piece). length p.owned) piece;
        room = w.sizes.room ∙ ap (λ (p : Piece). length p.owned * old.counters) piece;
      };
      again = λ again. subst (OwnEquationsHold e part.owned part.mirrors) values (equations_hold old hub i l (true_from (has_taken i (state_of old).past) (sym w.is_first ∙ again)) calm);
    }
  where
    true_from : (b : Bool) → not b ≡ false → b ≡ true
    true_from true h = refl
    true_from false h = sym h

-- A Work is ready right after its Take.
pub ready_after_take : (old new : HubValues) (lane : ℕ) (work : Work) → IsHub old → Appended old (Take work.worker lane) new → work.worker < worker_count (state_of old) →
    is_running (worker_at (workers_of old) work.worker) ≡ false → IsWork new lane (not (has_taken work.worker (state_of old).past)) work → IsReady new work
ready_after_take old new lane work hub appended l calm w =
    let same : new ≡ with_event old (Take work.worker lane) new.journal.spare =
    λ t. record { job = appended.0 t; counters = appended.1 t; start = appended.3 t; journal = record { events = appended.2 t; spare = new.journal.spare } } in
    subst (λ h. IsReady h work) (sym same) (ready_with old lane new.journal.spare work hub l calm (subst (λ h. IsWork h lane (not (has_taken work.worker (state_of old).past)) work) same w))
