-- A Give keeps the hub's tables fitting the state.
use Rattle.std.proofs.Common.{◌≡◌, ◌≢◌, ℕ, zero, suc, ◌+◌, ◌-◌, ◌^◌, ◌<◌, ◌≤◌, inl, inr, Bool, true, false, not, ◌==◌, ◌&&◌, max, if◌then◌else◌, refl, sym, ◌∙◌, ap, subst, arith, List, [], ◌∷◌, ◌++◌, length, length-append, length-take, length-set, map, take, drop, slice_get, slice_set, slice_index, slice_index_or, count_by, Contains, All, Some, None}
use Rattle.std.specs.List.{AllByRecursion}
use Rattle.std.proofs.lemmas.Bool.{eq-eqb, ne_eqb, cases_eq}
use Rattle.std.proofs.lemmas.List.{length-map, get_or-map, get_or_append_left, get_or-take, get_or-set_same, get_or-set_other}
use Rattle.std.proofs.lemmas.Grind.{same_number_lists}
use Rattle.std.proofs.lemmas.List.Elements.{Contains-get_or, All-from_get_or}
use Rattle.std.proofs.lemmas.List.FromFn.{length-range_with_len, get_or-map-range_with_len}
use Rattle.std.proofs.lemmas.Option.{slice_get-get_or, slice_get_within, get_or_from_slice_get}
use Rattle.value_order.specs.declared.TheConstants.{NOTHING}
use Rattle.value_order.specs.declared.order.Order.{Order}
use Rattle.value_order.specs.Order.{Below, meet_all}
use Rattle.value_order.proofs.Orders.{Below-antisym, Below-trans}
use Rattle.graph_core.specs.declared.fragment.Route.{Route}
use Rattle.graph_core.specs.Fragments.{Piece, no_piece, piece_at, places, numbers_below, StandsAt, IsOwnedAt}
use Rattle.graph_core.proofs.Cutting.{stands_left, stands_right}
use Rattle.grape_event.specs.declared.event.Event.TheVariants.{Give}
use Rattle.grape_event.specs.Events.{is_take}
use Rattle.message_buffer.specs.BufferValues.{BufferValues}
use Rattle.message_buffer.specs.Buffers.{batches_in}
use Rattle.message_buffer.specs.HandValues.{HandValues}
use Rattle.pie_core.specs.Locals.{LocalValues}
use Rattle.pie_core.specs.LocalCalls.{settled}
use Rattle.pie_core.specs.Solutions.{lowered, met, starts_of}
use Rattle.token_cut.specs.Recording.{is_marked}
use Rattle.base_machine.specs.Machine.{System, BaseGive, Standing, Worker, Post, worker_at, is_fresh, is_running, hand_of, part_of, posts_in, values_for, met_posts, posts_to, values_given, sent_to, after_giving, after_receiving, is_empty}
use Rattle.base_machine.specs.Fitness.{IsPartInForm}
use Rattle.base_machine.specs.Theorems.{IsSound}
use Rattle.base_machine.proofs.Bounded.{front, solution, new-length}
use Rattle.base_machine.proofs.Giving.{below_at, below-length}
use Rattle.base_machine.proofs.Receiving.{posts_from_changes}
use Rattle.base_machine.proofs.Swapping.{after-length, after-at, as_before}
use Rattle.legal_journal.specs.Past.{is_tagged, takes_since_begin}
use Rattle.legal_journal.specs.Delays.{window}
use Rattle.legal_journal.specs.Legal.{State, worker_count, state_after, round_after, arrivals_at, rests_without_mail}
use Rattle.legal_journal.specs.Choices.{first_in_turn}
use Rattle.legal_journal.proofs.Journals.{AreCounted}
use Rattle.legal_journal.proofs.Ledger.{takes-more}
use Rattle.delay_stretch.specs.Arrivals.{IsNotBelowLast}
use Rattle.stop_probe.specs.Journals.{probe_of}
use Rattle.stop_probe.proofs.Following.{follows_events}
use Rattle.hub_engine.specs.declared.desk.Desk.{Desk}
use Rattle.hub_engine.specs.declared.desk.Seat.{Seat}
use Rattle.hub_engine.specs.declared.desk.Seat.TheVariants.{Here, Out}
use Rattle.hub_engine.specs.declared.sender.Sender.{Sender}
use Rattle.hub_engine.specs.Desks.{DeskFits, SeatFits, Tables, TablesFit, HasSizes, buffer_of, waiting_in_class, turns_and_place, rested_desk}
use Rattle.hub_engine.specs.Posting.{with_batch_of, posted_from, posted, mirror_counts, LeadToDesks, ChangesAreValues, CanReceive, AllCanReceive, HasMailOf, recorded_with}
use Rattle.hub_engine.proofs.Mailing.{mirrors_there}
use Rattle.hub_engine.proofs.Classes.{batches_by_class}
use Rattle.hub_engine.proofs.Receipts.{mail_stays, received_buffer, seat_stays, posts_to-take}
use Rattle.hub_engine.proofs.Recorded.{tag_is, recorded_fits, mails_are}
use Rattle.hub_engine.proofs.Rounds.{rests_here, round_received, pulse_received}
use Rattle.hub_engine.proofs.Waiting.{FewWait}
use Rattle.hub_engine.proofs.Clocks.{AreInTime}

-- ---- desks in their places

desk_there : (desks : List Desk) (j : ℕ) → j < length desks → (d : Desk) × (slice_get desks j ≡ Some d)
desk_there [] j h = absurd (omega (arith, h))
desk_there (d ∷ desks) zero h = (d, refl)
desk_there (d ∷ desks) (suc j) h = desk_there desks j (omega (arith, h))

posted_at : (sender : Sender) (k : ℕ) (old new : List ℕ) (routes : List (List Route)) (desks : List Desk) (j : ℕ) (d : Desk) → slice_get (posted_from sender k old new routes desks) j ≡ Some d →
    (e : Desk) × (slice_get desks j ≡ Some e) × (d ≡ with_batch_of sender (posts_to (k + j) old new routes) e)
posted_at sender k old new routes [] j d h = cc
posted_at sender k old new routes (e ∷ desks) zero d h =
    let first : with_batch_of sender (posts_to k old new routes) e ≡ d = cc in
    let here : k ≡ k + 0 = omega arith in
    (e, refl, sym first ∙ ap (λ n. with_batch_of sender (posts_to n old new routes) e) here)
posted_at sender k old new routes (e ∷ desks) (suc j) d h =
    let rest = posted_at sender (k + 1) old new routes desks j d h in
    let there : k + 1 + j ≡ k + suc j = omega arith in
    (rest.0, rest.1, rest.2 ∙ ap (λ n. with_batch_of sender (posts_to n old new routes) rest.0) there)

pub posted_length : (sender : Sender) (k : ℕ) (old new : List ℕ) (routes : List (List Route)) (desks : List Desk) → length (posted_from sender k old new routes desks) ≡ length desks
posted_length sender k old new routes [] = refl
posted_length sender k old new routes (d ∷ desks) = let e = posted_length sender (k + 1) old new routes desks in omega (arith, e)

put_here : (desks : List Desk) (i : ℕ) (d e : Desk) → slice_get (slice_set desks i d) i ≡ Some e → i < length desks → e ≡ d
put_here desks i d e h l = sym (get_or_from_slice_get (slice_set desks i d) i e e h) ∙ get_or-set_same desks i d e l

put_elsewhere : (desks : List Desk) (i j : ℕ) (d e : Desk) → j ≢ i → slice_get (slice_set desks i d) j ≡ Some e → slice_get desks j ≡ Some e
put_elsewhere desks i j d e n h =
    let l : j < length desks = (let a = slice_get_within (slice_set desks i d) j e h in let b = length-set desks i d in omega (arith, a, b)) in
    slice_get-get_or desks j e l ∙ ap (λ x. Some x) (sym (get_or-set_other desks i j d e n) ∙ get_or_from_slice_get (slice_set desks i d) j e e h)

met_length : (o : Order) (n : ℕ) (ps : List Post) → length (met_posts o n ps) ≡ n
met_length o n ps = length-map (numbers_below n) (λ m. meet_all o NOTHING (values_for m ps)) ∙ length-range_with_len 0 n

none_of : (posts : List Post) → AllByRecursion (λ (p : Post). ⊥) posts → posts ≡ []
none_of [] h = refl
none_of (p ∷ posts) h = absurd h.0

-- ---- the Give

-- worker i may give these values, in a sound system; the worker is in the form of a snapshot, and the tables show the state
pub record CanGive (sys : System) (s : State) (counters : ℕ) (t : Tables) (i : ℕ) (local : LocalValues) (hand : HandValues) : Type 0 where
  pub sound : IsSound sys
  pub workers : length s.workers ≡ length sys.pieces
  pub form : IsPartInForm sys (piece_at sys.pieces i) (part_of sys (piece_at sys.pieces i) (worker_at s.workers i))
  pub counted : AreCounted (worker_count s) s
  pub fits : TablesFit sys s counters t
  pub in_range : i < worker_count s
  pub values : local.values ≡ values_given sys (piece_at sys.pieces i) (worker_at s.workers i)
  pub before : local.before ≡ take (length (piece_at sys.pieces i).owned) (worker_at s.workers i).values
  pub order : hand.order ≡ sys.equations.order
  pub sizes : HasSizes (piece_at sys.pieces i) counters local.before local.counters hand.values

module _ {sys : System} {s : State} {counters : ℕ} {t : Tables} {i : ℕ} {local : LocalValues} {hand : HandValues} (can : CanGive sys s counters t i local hand) where
  abbrev from : Piece
  from = piece_at sys.pieces i

  abbrev giver : Worker
  giver = worker_at s.workers i

  abbrev next : State
  next = state_after sys s (Give i)

  -- of this Give the batches come
  abbrev sender : Sender
  sender = record { place = length s.past; round = slice_index s.rounds i + 1; tagged = t.cut.recording && is_marked i t.cut }

  abbrev sent : List Desk
  sent = posted sender local.before local.values from.routes t.desks

  abbrev posts : ℕ → List Post
  posts k = posts_to k local.before local.values from.routes

  in_pieces : i < length sys.pieces
  in_pieces = let e = can.workers in let h = can.in_range in omega (arith, e, h)

  pub routes_within : i < length t.routes
  routes_within = let e = ap (λ (l : List (List (List Route))). length l) can.fits.are_routes in let l = length-map sys.pieces (λ (piece : Piece). piece.routes) in let h = in_pieces in omega (arith, e, l, h)

  pub routes_here : (d : List (List Route)) → slice_index_or t.routes i d ≡ from.routes
  routes_here d = ap (λ l. slice_index_or l i d) can.fits.are_routes ∙ get_or-map {X = Piece} {Y = List (List Route)} (λ piece. piece.routes) sys.pieces i no_piece d in_pieces

  route_count : length from.routes ≡ length from.owned
  route_count = can.sound.cut.routes_len i in_pieces

  pub rows_fit : length from.routes ≡ length local.before
  rows_fit = route_count ∙ sym can.sizes.owned

  own_place : (p : ℕ) → p < length from.routes → IsOwnedAt sys.pieces i p (slice_index from.owned p)
  own_place p h = (in_pieces, ((let e = route_count in omega (arith, e, h)), refl))

  -- a route of an owned place leads to a mirror of its vertex
  leads : (p : ℕ) (r : Route) → p < length from.routes → Contains (slice_index_or from.routes p []) r → (r.fragment < length sys.pieces) × StandsAt (piece_at sys.pieces r.fragment).mirrors r.mirror (slice_index from.owned p)
  leads p r h c = (can.sound.cut.routes i p (slice_index from.owned p) r.fragment r.mirror (own_place p h)).0 c

  mirrors_at : (j : ℕ) → j < length t.desks → slice_index (mirror_counts t.desks) j ≡ length (piece_at sys.pieces j).mirrors
  mirrors_at j h =
      let d = desk_there t.desks j h in
      let n = length (piece_at sys.pieces j).mirrors in
      mirrors_there t.desks j d.0 h
      ∙ (ap (λ (e : Desk). length e.buffer.plain) (get_or_from_slice_get t.desks j d.0 d.0 d.1)
      ∙ (ap (λ (b : BufferValues). length b.plain) (can.fits.fit j d.0 d.1).buffer ∙ met_length sys.equations.order n ((worker_at s.workers j).start_posts ++ posts_in (waiting_in_class false s j))))

  -- where a recording is open it has the mail of each desk
  pub has_mail_of : HasMailOf t.desks t.cut
  has_mail_of on =
      let a = can.fits.count in
      let b = can.workers in
      let c = length-map t.desks (λ (d : Desk). length d.buffer.plain) in
      let e = length-map sys.pieces (λ (piece : Piece). length piece.mirrors) in
      mails_are sys s t.cut can.fits.is_cut on
      ∙ sym (same_number_lists (mirror_counts t.desks) (map (λ (piece : Piece). length piece.mirrors) sys.pieces) (omega (arith, a, b, c, e))
      (λ k h. mirrors_at k (omega (arith, c, h)) ∙ sym (get_or-map {X = Piece} {Y = ℕ} (λ piece. length piece.mirrors) sys.pieces k no_piece 0 (omega (arith, h, a, b, c)))))

  abbrev to_desk : Route → Type 0
  to_desk r = r.mirror < slice_index (mirror_counts t.desks) r.fragment

  pub lead_to_desks : LeadToDesks from.routes t.desks
  lead_to_desks =
      All-from_get_or (λ row. All to_desk row) from.routes []
      (λ p h. All-from_get_or to_desk (slice_index_or from.routes p []) (record { fragment = 0; mirror = 0 })
      (λ q l. one p h (slice_index_or (slice_index_or from.routes p []) q (record { fragment = 0; mirror = 0 })) (Contains-get_or (slice_index_or from.routes p []) q (record { fragment = 0; mirror = 0 }) l)))
    where
      one : (p : ℕ) → p < length from.routes → (r : Route) → Contains (slice_index_or from.routes p []) r → r.mirror < slice_index (mirror_counts t.desks) r.fragment
      one p h r c =
          let there = leads p r h c in
          let a = there.0 in
          let b = there.1.0 in
          let e = can.workers in
          let f = can.fits.count in
          let m = mirrors_at r.fragment (omega (arith, a, e, f)) in
          omega (arith, b, m)

  -- ---- what was sent

  old_place : (p : ℕ) → p < length local.before → slice_index local.before p ≡ slice_index giver.values p
  old_place p h = ap (λ l. slice_index l p) can.before ∙ get_or-take (length from.owned) giver.values p 0 (let e = can.sizes.owned in omega (arith, e, h))

  whole : length giver.values ≡ length (places from)
  whole = below-length sys.equations.order giver.values (starts_of sys.equations (places from)) can.form.values ∙ length-map (places from) sys.equations.start

  given_length : length (values_given sys from giver) ≡ length giver.values
  given_length = new-length sys can.sound i in_pieces giver whole

  -- what is given of an owned place lies below its value
  given_below : (p : ℕ) → p < length from.owned → Below sys.equations.order (slice_index (values_given sys from giver) p) (slice_index giver.values p)
  given_below p h =
      let o = sys.equations.order in
      let xs = lowered sys.equations from.owned giver.values (hand_of giver) in
      let f = front sys can.sound i in_pieces giver whole in
      let e = get_or_append_left (take (length from.owned) giver.values) (met o (drop (length from.owned) giver.values) (hand_of giver)) 0 p (omega (arith, f, h)) ∙ get_or-take (length from.owned) giver.values p 0 h in
      subst (Below o (slice_index (values_given sys from giver) p)) e (below_at o (values_given sys from giver) xs (solution sys can.sound i in_pieces giver whole).candidate.below p)

  pub changes_are_values : ChangesAreValues local.before local.values
  changes_are_values p h n z =
      let o = sys.equations.order in
      let e = can.sizes.owned in
      let owned : p < length from.owned = omega (arith, e, h) in
      let v = slice_index from.owned p in
      let stands : StandsAt (places from) p v = stands_left from.owned from.mirrors p v (owned, refl) in
      let in_range : v < sys.equations.count = (let P : ℕ → Type 0 = λ n. n < sys.equations.count in subst P stands.1 (can.sound.cut.in_range i p in_pieces stands.0)) in
      let new : slice_index local.values p ≡ slice_index (values_given sys from giver) p = ap (λ l. slice_index l p) can.values in
      let low : Below o (slice_index local.values p) (slice_index giver.values p) = subst (λ x. Below o x (slice_index giver.values p)) (sym new) (given_below p owned) in
      let start : Below o (slice_index giver.values p) (sys.equations.start v) =
      subst (Below o (slice_index giver.values p)) (get_or-map sys.equations.start (places from) p 0 0 stands.0 ∙ ap sys.equations.start stands.1) (below_at o giver.values (starts_of sys.equations (places from)) can.form.values p) in
      let small : Below o (slice_index giver.values p) NOTHING = Below-trans o (slice_index giver.values p) (sys.equations.start v) NOTHING start (can.sound.lawful.start_is_value v in_range) in
      let high : Below o NOTHING (slice_index giver.values p) = subst (λ x. Below o x (slice_index giver.values p)) z low in
      n (old_place p h ∙ (Below-antisym o (slice_index giver.values p) NOTHING small high ∙ sym z))

  pub can_receive : FewWait s → AreInTime s → 1 ≤ count_by is_take s.past → length s.past < 2 ^ 64 - 1 → AllCanReceive (length s.past) t.desks
  can_receive few times took short =
      All-from_get_or (CanReceive (length s.past)) t.desks some_desk (λ j h. one j h (slice_index_or t.desks j some_desk) (slice_get-get_or t.desks j some_desk h))
    where
      some_desk : Desk
      some_desk = record { seat = Out 0 0; delay = None; round = 0; pulse = []; buffer = buffer_of sys s i; begun = false }

      in_window : (n : ℕ) (arrivals : List ℕ) → AllByRecursion (λ a. a < n) arrivals → IsNotBelowLast n (window arrivals)
      in_window n [] h = tt
      in_window n (a ∷ before) h = let l = h.0 in omega (arith, l)

      one : (j : ℕ) → j < length t.desks → (d : Desk) → slice_get t.desks j ≡ Some d → CanReceive (length s.past) d
      one j h d there =
          let f = can.fits.fit j d there in
          let c = can.fits.count in
          let inside : j < worker_count s = omega (arith, h, c) in
          let count = ap (λ (b : BufferValues). batches_in b) f.buffer ∙ batches_by_class sys s j can.counted inside in
          let waits = few j inside in
          (omega (arith, count, waits, took, short), subst (IsNotBelowLast (length s.past)) (sym f.pulse) (in_window (length s.past) (slice_index_or s.arrivals j []) (times.arrivals j)))

  posts_are : (k : ℕ) → posts_to k local.before local.values from.routes ≡ sent_to sys from giver k
  posts_are k =
      ap (λ l. posts_to k l local.values from.routes) can.before
      ∙ (ap (λ l. posts_to k (take (length from.owned) giver.values) l from.routes) can.values
      ∙ posts_to-take k (length from.owned) giver.values (values_given sys from giver) from.routes (let e = route_count in omega (arith, e)))

  -- it sends nothing to itself
  none_to_itself : posts_to i local.before local.values from.routes ≡ []
  none_to_itself =
      none_of (posts_to i local.before local.values from.routes)
      (posts_from_changes (λ (p : Post). ⊥) i local.before local.values from.routes
      (λ p r l c e.
      let P : ℕ → Type 0 = λ n. StandsAt (piece_at sys.pieces n).mirrors r.mirror (slice_index from.owned p) in
      let mirror : StandsAt from.mirrors r.mirror (slice_index from.owned p) = subst P e (leads p r l c).1 in
      let v = slice_index from.owned p in
      let own = own_place p l in
      let same = can.sound.cut.apart i p (length from.owned + r.mirror) v (stands_left from.owned from.mirrors p v own.1) (stands_right from.owned from.mirrors r.mirror v mirror) in
      let h = own.1.0 in
      omega (arith, same, h)))

  -- its batches are of the class that the journal says
  tag_fits : sender.tagged ≡ is_tagged i (giver.gives + 1) s.past
  tag_fits = let g = can.counted.gives i can.in_range in tag_is sys s t.cut i (giver.gives + 1) can.fits.is_cut can.in_range (omega (arith, g))

  -- ---- the workers after it

  long : worker_count next ≡ worker_count s
  long = after-length sys s.workers (BaseGive i)

  giver_is : worker_at next.workers i ≡ after_giving sys from giver
  giver_is =
      after-at sys s.workers (BaseGive i) i can.in_range
      ∙ ap (λ b. if b then after_giving sys from giver else after_receiving i (giver.gives + 1) (sent_to sys from giver i) giver) (eq-eqb i i refl)

  receiver_is : (j : ℕ) → j < worker_count s → j ≢ i → worker_at next.workers j ≡ after_receiving i (giver.gives + 1) (sent_to sys from giver j) (worker_at s.workers j)
  receiver_is j h n =
      after-at sys s.workers (BaseGive i) j h
      ∙ ap (λ b. if b then after_giving sys from (worker_at s.workers j) else after_receiving i (giver.gives + 1) (sent_to sys from giver j) (worker_at s.workers j)) (ne_eqb j i n)

  -- ---- the rounds and arrivals after it

  rounds_are : (j : ℕ) → j < worker_count s → slice_index next.rounds j ≡ round_after sys s i j
  rounds_are j h = get_or-map-range_with_len (round_after sys s i) 0 (worker_count s) j j 0 h (omega arith)

  arrivals_are : (j : ℕ) → j < worker_count s → slice_index_or next.arrivals j [] ≡ arrivals_at sys s i j
  arrivals_are j h = get_or-map-range_with_len (arrivals_at sys s i) 0 (worker_count s) j j [] h (omega arith)

  -- ---- the desks after it

  given_desk : (d : Desk) → slice_get sent i ≡ Some d → DeskFits sys next counters i (rested_desk sender.round (settled local) hand d)
  given_desk d there =
      let at = posted_at sender 0 local.before local.values from.routes t.desks i d there in
      let e = at.0 in
      let f = can.fits.fit i e at.1 in
      let z : 0 + i ≡ i = omega arith in
      let desk : d ≡ e = at.2 ∙ ap (λ l. with_batch_of sender l e) (ap (λ n. posts_to n local.before local.values from.routes) z ∙ none_to_itself) in
      let size : length local.before ≡ length (take (length from.owned) local.values) =
      (let a = can.sizes.owned in let b = length-take (length from.owned) local.values in let c = ap (λ (l : List ℕ). length l) can.values in
      let d = given_length in let k = whole in let m = length-append from.owned from.mirrors in omega (arith, a, b, c, d, k, m)) in
      let now : take (length local.before) local.values ≡ take (length from.owned) local.values = ap (λ n. take n local.values) can.sizes.owned in
      record {
        seat = (
          ap (λ (w : Worker). is_running w) giver_is,
          sym (ap (λ (w : Worker). is_fresh w) giver_is),
          can.values ∙ sym (ap (λ (w : Worker). w.values) giver_is),
          now ∙ (ap (λ l. take (length from.owned) l) can.values ∙ sym (ap (λ (w : Worker). take (length from.owned) w.values) giver_is)),
          can.order,
          record { owned = ap (λ (l : List ℕ). length l) now ∙ (sym size ∙ can.sizes.owned); room = can.sizes.room; mirrors = can.sizes.mirrors },
        );
        delay = f.delay ∙ sym (ap (λ (x : Desk). turns_and_place x.delay) desk);
        round = sym (rounds_are i can.in_range ∙ own_round (i == i) (eq-eqb i i refl));
        pulse = ap (λ (x : Desk). x.pulse) desk ∙ (f.pulse ∙ sym (ap window (arrivals_are i can.in_range ∙ own_arrivals (i == i) (eq-eqb i i refl))));
        buffer = ap (λ (x : Desk). x.buffer) desk ∙ (f.buffer ∙ mail_stays sys s i i (after_giving sys from giver) long giver_is refl refl);
        begun = ap (λ (x : Desk). x.begun) desk ∙ f.begun;
      }
    where
      own_round : (b : Bool) → b ≡ true →
          (if b then slice_index s.rounds i + 1 else if (not b && not (is_empty (sent_to sys from giver i))) && rests_without_mail s i then max (slice_index s.rounds i) (slice_index s.rounds i + 1) else slice_index s.rounds i)
          ≡ slice_index s.rounds i + 1
      own_round true h = refl
      own_round false h = cc

      own_arrivals : (b : Bool) → b ≡ true → (if not b && not (is_empty (sent_to sys from giver i)) then length s.past ∷ slice_index_or s.arrivals i [] else slice_index_or s.arrivals i []) ≡ slice_index_or s.arrivals i []
      own_arrivals true h = refl
      own_arrivals false h = cc

  other_desk : (j : ℕ) (d : Desk) → j ≢ i → slice_get sent j ≡ Some d → DeskFits sys next counters j d
  other_desk j d n there =
      let at = posted_at sender 0 local.before local.values from.routes t.desks j d there in
      let e = at.0 in
      let f = can.fits.fit j e at.1 in
      let z : 0 + j ≡ j = omega arith in
      let ps = sent_to sys from giver j in
      let desk : d ≡ with_batch_of sender ps e = at.2 ∙ ap (λ l. with_batch_of sender l e) (ap (λ n. posts_to n local.before local.values from.routes) z ∙ posts_are j) in
      let c = can.fits.count in
      let l = slice_get_within t.desks j e at.1 in
      let h : j < worker_count s = omega (arith, c, l) in
      let same = as_before sys s.workers (BaseGive i) j h n in
      let stays = seat_stays sender ps e in
      subst (DeskFits sys next counters j) (sym desk)
      (record {
        seat = subst (SeatFits sys next counters j) (sym stays.0) (still e.seat same.standing same.values f.seat);
        delay = f.delay ∙ sym (ap turns_and_place stays.1);
        begun = stays.2 ∙ f.begun;
        round = round_received sender ps e (slice_index s.rounds j) (slice_index s.rounds i) (j == i) (rests_without_mail s j) (ne_eqb j i n) f.round refl (rests_here sys s counters j e can.counted h f) ∙ sym (rounds_are j h);
        pulse = pulse_received sender ps e (slice_index_or s.arrivals j []) (j == i) (ne_eqb j i n) f.pulse ∙ sym (ap window (arrivals_are j h));
        buffer = received_buffer sys s sender i j (giver.gives + 1) ps e long can.in_range (can.counted.mail j h).senders (receiver_is j h n) tag_fits f.buffer;
      })
    where
      still : (seat : Seat) → (worker_at next.workers j).standing ≡ (worker_at s.workers j).standing → (worker_at next.workers j).values ≡ (worker_at s.workers j).values →
          SeatFits sys s counters j seat → SeatFits sys next counters j seat
      still (Here fresh here hand) a b k = (
        ap (λ (x : Standing). is_running (record (worker_at s.workers j) { standing = x })) a ∙ k.0,
        k.1 ∙ sym (ap (λ (x : Standing). is_fresh (record (worker_at s.workers j) { standing = x })) a),
        k.2 ∙ sym b,
        k.3 ∙ sym (ap (λ l. take (length (piece_at sys.pieces j).owned) l) b),
        k.4,
        k.5,
      )
      still (Out lane place) a b k = (ap (λ (x : Standing). is_running (record (worker_at s.workers j) { standing = x })) a ∙ k.0, k.1, k.2)

  -- the tables after it
  abbrev given_tables : Desk → Tables
  given_tables d =
      record {
        routes = t.routes;
        desks = slice_set sent i (rested_desk sender.round (settled local) hand d);
        probe = t.probe;
        cut = recorded_with sender posts t.cut;
        counts = t.counts;
        turn = t.turn;
      }

  pub give_fits : (d : Desk) → slice_get sent i ≡ Some d → TablesFit sys next counters (given_tables d)
  give_fits d there =
      let sent_long = posted_length sender 0 local.before local.values from.routes t.desks in
      let new : Desk = rested_desk sender.round (settled local) hand d in
      let more = takes-more (Give i) s.past in
      let takes : takes_since_begin s.past ≡ takes_since_begin (Give i ∷ s.past) = omega (arith, more) in
      record {
        are_routes = can.fits.are_routes;
        count = length-set sent i new ∙ (sent_long ∙ (can.fits.count ∙ sym long));
        is_probe = can.fits.is_probe ∙ (sym ((follows_events (worker_count s)).1 s.past (Give i)) ∙ sym (ap (λ n. probe_of n (Give i ∷ s.past)) long));
        is_cut = recorded_fits sys s t.cut i sender posts can.fits.is_cut can.in_range refl (λ k h. posts_are k) long;
        are_counts = record { epoch = can.fits.are_counts.epoch; takes = can.fits.are_counts.takes ∙ takes; sealed = can.fits.are_counts.sealed };
        is_turn = can.fits.is_turn ∙ sym (ap (λ n. first_in_turn n s.past) long);
        fit = λ j e h. elim (cases_eq j i) [
          | inl k ↦
              let P : ℕ → Type 0 = λ q. DeskFits sys next counters q e in
              let put = put_here sent i new e (subst (λ q. slice_get (slice_set sent i new) q ≡ Some e) k h) (slice_get_within sent i d there) in
              subst P (sym k) (subst (DeskFits sys next counters i) (sym put) (given_desk d there))
          | inr n ↦ other_desk j e n (put_elsewhere sent i j new e n h)
        ];
      }
