-- What a hub's Take leaves: a hub whose tables fit, and a Work.
use Rattle.std.proofs.Common.{◌≡◌, ℕ, suc, ◌+◌, ◌<◌, ◌≤◌, Bool, true, false, not, nat_lt, cond, if◌then◌else◌, IsTrue, sym, ◌∙◌, ap, subst, arith, List, [], ◌∷◌, length, take, slice_get, Some}
use Rattle.std.proofs.lemmas.Bool.{false≢true}
use Rattle.std.proofs.lemmas.List.{length-map}
use Rattle.std.proofs.lemmas.List.FromFn.{length-range_with_len}
use Rattle.std.proofs.lemmas.Option.{slice_get_within}
use Rattle.graph_core.specs.Fragments.{Piece, piece_at, numbers_below}
use Rattle.grape_event.specs.declared.event.Event.TheVariants.{Take}
use Rattle.message_buffer.specs.HandValues.{HandValues}
use Rattle.message_buffer.specs.BufferValues.{BufferValues}
use Rattle.message_buffer.specs.Buffers.{all_waiting}
use Rattle.pie_core.specs.Locals.{LocalValues}
use Rattle.base_machine.specs.Machine.{System, Worker, BaseTake, worker_at, is_running, hand_of, after_taking}
use Rattle.base_machine.proofs.Swapping.{after-length}
use Rattle.legal_journal.specs.Past.{gives_of_each, takes_since_begin, is_begin}
use Rattle.grape_event.specs.declared.event.Event.{Event}
use Rattle.grape_event.specs.Events.{is_take}
use Rattle.legal_journal.proofs.Ledger.{takes-more}
use Rattle.legal_journal.specs.Legal.{State, worker_count, is_admitted, state_after}
use Rattle.hub_engine.specs.declared.desk.Desk.{Desk}
use Rattle.hub_engine.specs.declared.desk.Seat.{Seat}
use Rattle.hub_engine.specs.declared.desk.Seat.TheVariants.{Here, Out}
use Rattle.hub_engine.specs.HubValues.{HubValues}
use Rattle.hub_engine.specs.States.{machine, state_of, workers_of, piece_of_worker, works_out, events_owed, IsHub, IsOut}
use Rattle.hub_engine.specs.Desks.{DeskFits, SeatFits, Tables, TablesFit, HasSizes, HandFits, TakesFrom, has_taken, taken_desk}
use Rattle.hub_engine.specs.Calls.{Appended, IsWork}
use Rattle.hub_engine.proofs.Taken.{take_fits, taken_fits, taken_in, taker_is, hand_is, values_stay}
use Rattle.hub_engine.proofs.Takings.{moved, clock_of}
use Rattle.hub_engine.proofs.Hubs.{counted_of, same_machine, state_grown, hub_grown, out_set}

-- the hand of a worker that isn't out fits its buffer
pub hand_fits : (sys : System) (s : State) (counters i : ℕ) (d : Desk) → is_running (worker_at s.workers i) ≡ false → DeskFits sys s counters i d → HandFits d d.seat
hand_fits sys s counters i d idle f = go d.seat f.seat
  where
    long : length d.buffer.plain ≡ length (piece_at sys.pieces i).mirrors
    long = ap (λ (b : BufferValues). length b.plain) f.buffer ∙ (length-map (numbers_below (length (piece_at sys.pieces i).mirrors)) _ ∙ length-range_with_len 0 (length (piece_at sys.pieces i).mirrors))

    go : (seat : Seat) → SeatFits sys s counters i seat → HandFits d seat
    go (Here fresh local hand) k = (k.4 ∙ sym (ap (λ (b : BufferValues). b.order) f.buffer), k.5.mirrors ∙ sym long)
    go (Out lane place) k = absurd (false≢true (sym idle ∙ k.0))

module _ (old new : HubValues) (t : Tables) (i lane : ℕ) (d : Desk) (kept : IsHub old) (fits : TablesFit (machine old) (state_of old) old.counters t)
    (here : slice_get t.desks i ≡ Some d) (idle : is_running (worker_at (workers_of old) i) ≡ false) (more : Appended old (Take i lane) new) where
  in_range : i < worker_count (state_of old)
  in_range = let c = fits.count in let l = slice_get_within t.desks i d here in omega (arith, c, l)

  taker : worker_at (state_after (machine old) (state_of old) (Take i lane)).workers i ≡ after_taking (machine old) (piece_at (machine old).pieces i) (gives_of_each (numbers_below (worker_count (state_of old))) (state_of old).past) (worker_at (state_of old).workers i)
  taker = taker_is (machine old) (state_of old) old.counters t i lane d (counted_of old kept) fits here

  pub one_more_out : works_out (state_after (machine old) (state_of old) (Take i lane)).workers ≡ works_out (workers_of old) + 1
  one_more_out =
      let w' = after_taking (machine old) (piece_at (machine old).pieces i) (gives_of_each (numbers_below (worker_count (state_of old))) (state_of old).past) (worker_at (state_of old).workers i) in
      let o = out_set (workers_of old) i w' in_range in
      let z : cond (is_running (worker_at (workers_of old) i)) 1 0 ≡ 0 = ap {B = ℕ} (λ b. cond b 1 0) idle in
      omega (arith, o, z)

  pub taken_hub : IsTrue (is_admitted (machine old) (state_of old) (Take i lane)) → events_owed (state_of old) + 1 ≤ new.journal.spare → IsHub new
  taken_hub a room = let o = one_more_out in hub_grown old new (Take i lane) more kept a (λ q. omega (arith, o, room))

  pub taken_tables : (place turn' : ℕ) → place ≡ length old.journal.events → turn' ≡ (if nat_lt (i + 1) (length t.desks) then i + 1 else 0) → TablesFit (machine new) (state_of new) old.counters (taken_in i lane place d turn' t)
  taken_tables place turn' at next =
      moved old new (Take i lane) (taken_in i lane place d turn' t) more (take_fits (machine old) (state_of old) old.counters t i lane d (counted_of old kept) fits here place turn' (at ∙ clock_of old) next)

  pub taken_work : (place : ℕ) (taken : Bool × LocalValues × HandValues) (d' : Desk) → place ≡ length old.journal.events → TakesFrom d d.seat lane place taken d' →
      IsWork new lane (not (has_taken i (state_of old).past)) (record { worker = i; place = place; fresh = taken.0; local = taken.1; hand = taken.2 })
  taken_work place taken d' at tk = go d.seat (fits.fit i d here).seat tk
    where
      seat : SeatFits (machine old) (state_after (machine old) (state_of old) (Take i lane)) old.counters i (Out lane place)
      seat = (taken_fits (machine old) (state_of old) old.counters t i lane d (counted_of old kept) fits here place (at ∙ clock_of old)).seat

      grown : state_of new ≡ state_after (machine old) (state_of old) (Take i lane)
      grown = state_grown old new (Take i lane) more

      out : IsOut (state_of new) lane i place
      out = subst (λ (q : State). IsOut q lane i place) (sym (state_grown old new (Take i lane) more))
          (record {
            in_range = let l = after-length (machine old) (state_of old).workers (BaseTake i (gives_of_each (numbers_below (worker_count (state_of old))) (state_of old).past)) in let r = in_range in omega (arith, l, r);
            running = seat.0;
            by_lane = seat.1;
            since = seat.2;
          })

      same_values : (worker_at (workers_of old) i).values ≡ (worker_at (workers_of new) i).values
      same_values = sym (ap (λ (q : State). (worker_at q.workers i).values) (state_grown old new (Take i lane) more) ∙ values_stay (machine old) (state_of old) old.counters t i lane d (counted_of old kept) fits here)

      in_hand : all_waiting d.buffer ≡ hand_of (worker_at (workers_of new) i)
      in_hand = hand_is (machine old) (state_of old) old.counters t i lane d (counted_of old kept) fits here
          ∙ sym (ap (λ (q : State). hand_of (worker_at q.workers i)) (state_grown old new (Take i lane) more))

      hand_long : length (all_waiting d.buffer) ≡ length (piece_at (machine old).pieces i).mirrors
      hand_long = ap (λ (l : List ℕ). length l) (hand_is (machine old) (state_of old) old.counters t i lane d (counted_of old kept) fits here ∙ ap (λ (w : Worker). hand_of w) taker)
          ∙ (length-map (numbers_below (length (piece_at (machine old).pieces i).mirrors)) _ ∙ length-range_with_len 0 (length (piece_at (machine old).pieces i).mirrors))

      same_piece : piece_of_worker new i ≡ piece_of_worker old i
      same_piece = ap (λ (sys : System). piece_at sys.pieces i) (same_machine old new (Take i lane) more)

      go : (st : Seat) → SeatFits (machine old) (state_of old) old.counters i st → TakesFrom d st lane place taken d' →
          IsWork new lane (not (has_taken i (state_of old).past)) (record { worker = i; place = place; fresh = taken.0; local = taken.1; hand = taken.2 })
      go (Here fresh local hand) k tk =
          let hand_values : taken.2.values ≡ all_waiting d.buffer = ap (λ (h : HandValues). h.values) tk.2 in
          record {
            out = out;
            is_first = tk.0 ∙ ap (λ b. not b) (fits.fit i d here).begun;
            values = ap (λ (l : LocalValues). l.values) tk.1 ∙ (k.2 ∙ same_values);
            hand = tk.2 ∙ (ap (λ o. record { order = o; values = all_waiting d.buffer }) (ap (λ (b : BufferValues). b.order) (fits.fit i d here).buffer ∙ sym (ap (λ (sys : System). sys.equations.order) (same_machine old new (Take i lane) more)))
                ∙ ap (λ l. record { order = (machine new).equations.order; values = l }) in_hand);
            before = ap (λ (l : LocalValues). l.before) tk.1 ∙ (k.3 ∙ (ap (λ l. take (length (piece_of_worker old i).owned) l) same_values ∙ ap (λ (p : Piece). take (length p.owned) (worker_at (workers_of new) i).values) (sym same_piece)));
            sizes = subst (λ (p : Piece). HasSizes p new.counters taken.1.before taken.1.counters taken.2.values) (sym same_piece)
                (subst (λ n. HasSizes (piece_of_worker old i) n taken.1.before taken.1.counters taken.2.values) (sym more.1)
                (record {
                  owned = ap (λ (l : LocalValues). length l.before) tk.1 ∙ k.5.owned;
                  room = ap (λ (l : LocalValues). length l.counters) tk.1 ∙ k.5.room;
                  mirrors = ap (λ (l : List ℕ). length l) hand_values ∙ hand_long;
                }));
          }
      go (Out from since) k t = absurd t

-- the desk that is left
pub taken_seat : (d : Desk) (lane place : ℕ) (taken : Bool × LocalValues × HandValues) (d' : Desk) → TakesFrom d d.seat lane place taken d' → d' ≡ taken_desk lane place d
taken_seat d lane place taken d' t = go d.seat t
  where
    go : (st : Seat) → TakesFrom d st lane place taken d' → d' ≡ taken_desk lane place d
    go (Here fresh local hand) t = t.3
    go (Out from since) t = absurd t

-- no more Takes follow a Begin than there are events
pub few_takes : (past : List Event) → takes_since_begin past ≤ length past
few_takes [] = omega arith
few_takes (e ∷ past) = go (not (is_begin e)) (is_take e) (takes-more e past) (few_takes past)
  where
    go : (b c : Bool) → takes_since_begin (e ∷ past) ≡ cond b (cond c 1 0 + takes_since_begin past) 0 → takes_since_begin past ≤ length past → takes_since_begin (e ∷ past) ≤ suc (length past)
    go true true h k = omega (arith, h, k)
    go true false h k = omega (arith, h, k)
    go false c h k = omega (arith, h, k)
