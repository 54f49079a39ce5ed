-- What a Take does to the hub's tables.
use Rattle.std.proofs.Common.{◌≡◌, ◌≢◌, ℕ, zero, suc, ◌+◌, ◌<◌, inl, inr, Bool, true, false, ◌||◌, nat_lt, if◌then◌else◌, refl, sym, ◌∙◌, ap, subst, arith, List, [], ◌∷◌, ◌++◌, length, filter, flat_map, slice_get, slice_set, slice_index_or, length-set, sum_by, Some, None}
use Rattle.std.specs.List.{range_with_len}
use Rattle.std.proofs.lemmas.Bool.{eq-eqb, ne_eqb}
use Rattle.std.proofs.lemmas.List.{length-map}
use Rattle.std.proofs.lemmas.List.Sums.{sum_by-cons}
use Rattle.std.proofs.lemmas.List.FromFn.{length-range_with_len}
use Rattle.std.proofs.lemmas.Option.{slice_get_within}
use Rattle.graph_core.specs.Fragments.{Piece, piece_at, numbers_below}
use Rattle.grape_event.specs.declared.event.Event.{Event}
use Rattle.grape_event.specs.declared.event.Event.TheVariants.{Take}
use Rattle.message_buffer.specs.BufferValues.{BufferValues}
use Rattle.message_buffer.specs.Buffers.{emptied, all_waiting, new_buffer}
use Rattle.message_buffer.specs.Posted.{same_class}
use Rattle.base_machine.specs.Machine.{System, Worker, Batch, BaseTake, worker_at, is_running, is_empty, after_taking, met_posts, posts_in, hand_of}
use Rattle.base_machine.proofs.Swapping.{after-length, after-at}
use Rattle.legal_journal.specs.Past.{lane_of, stretch_of, gives_of_each, is_tagged}
use Rattle.legal_journal.specs.Legal.{State, worker_count, state_after}
use Rattle.legal_journal.proofs.Journals.{AreCounted}
use Rattle.legal_journal.proofs.Ledger.{takes-more}
use Rattle.stop_probe.specs.Journals.{after_event}
use Rattle.hub_engine.specs.declared.desk.Desk.{Desk}
use Rattle.hub_engine.specs.States.{take_place}
use Rattle.hub_engine.specs.Desks.{DeskFits, Tables, TablesFit, buffer_of, waiting_in_class, has_taken, taken_desk}
use Rattle.hub_engine.proofs.Mail.{hand_is_pending, none_waiting, no_posts_met}
use Rattle.hub_engine.proofs.ClassMail.{all_waiting_is}
use Rattle.hub_engine.proofs.Steps.{set_cases, same_desk, same_cut, probe_fits}

-- the tables after the Take of worker i
abbrev pub taken_in : ℕ → ℕ → ℕ → Desk → ℕ → Tables → Tables
taken_in i lane place d turn t =
    record {
      routes = t.routes;
      desks = slice_set t.desks i (taken_desk lane place d);
      probe = after_event (Take i lane) t.probe;
      cut = t.cut;
      counts = record { epoch = t.counts.epoch; takes = t.counts.takes + 1; sealed = t.counts.sealed };
      turn = turn;
    }

-- where no batch waits, none waits in a class
empty_queue : (bs : List Batch) → length bs ≡ 0 → bs ≡ []
empty_queue [] h = refl
empty_queue (b ∷ bs) h = absurd (omega (arith, h))

queue_empty : (mail : List (List Batch)) (j : ℕ) → sum_by {X = List Batch} (λ bs. length bs) mail ≡ 0 → slice_index_or mail j [] ≡ []
queue_empty [] j h = refl
queue_empty (bs ∷ mail) zero h = let c = sum_by-cons {X = List Batch} (λ l. length l) bs mail in empty_queue bs (omega (arith, h, c))
queue_empty (bs ∷ mail) (suc j) h = let c = sum_by-cons {X = List Batch} (λ l. length l) bs mail in queue_empty mail j (omega (arith, h, c))

nothing_from : (test : ℕ → Batch → Bool) (a n : ℕ) (mail : List (List Batch)) → sum_by {X = List Batch} (λ bs. length bs) mail ≡ 0 → flat_map (λ j. filter (test j) (slice_index_or mail j [])) (range_with_len a n) ≡ []
nothing_from test a zero mail h = refl
nothing_from test a (suc n) mail h =
    ap (λ q. filter (test a) q ++ flat_map (λ j. filter (test j) (slice_index_or mail j [])) (range_with_len (a + 1) n)) (queue_empty mail a h) ∙ nothing_from test (a + 1) n mail h

nothing_of : (test : ℕ → Batch → Bool) (n : ℕ) (mail : List (List Batch)) → sum_by {X = List Batch} (λ bs. length bs) mail ≡ 0 → flat_map (λ j. filter (test j) (slice_index_or mail j [])) (numbers_below n) ≡ []
nothing_of test n mail h = nothing_from test 0 n mail h

-- the buffer of a worker among so many, after this past
abbrev buffer_at : System → List Event → ℕ → ℕ → Worker → BufferValues
buffer_at sys past j n w =
    let mirrors = length (piece_at sys.pieces j).mirrors in
    let plain = flat_map (λ k. filter (λ (b : Batch). same_class false (is_tagged k b.number past)) (slice_index_or w.mail k [])) (numbers_below n) in
    let tagged = flat_map (λ k. filter (λ (b : Batch). same_class true (is_tagged k b.number past)) (slice_index_or w.mail k [])) (numbers_below n) in
    record {
      order = sys.equations.order;
      plain = met_posts sys.equations.order mirrors (w.start_posts ++ posts_in plain);
      tagged = met_posts sys.equations.order mirrors (posts_in tagged);
      plain_batches = (if is_empty w.start_posts then 0 else 1) + length plain;
      tagged_batches = length tagged;
    }

module _ (sys : System) (s : State) (counters : ℕ) (t : Tables) (i lane : ℕ) (d : Desk) (counted : AreCounted (worker_count s) s)
    (fits : TablesFit sys s counters t) (here : slice_get t.desks i ≡ Some d) where
  piece : Piece
  piece = piece_at sys.pieces i

  in_range : i < worker_count s
  in_range = let c = fits.count in let l = slice_get_within t.desks i d here in omega (arith, c, l)

  pub taker_is : worker_at (state_after sys s (Take i lane)).workers i ≡ after_taking sys (piece_at sys.pieces i) (gives_of_each (numbers_below (worker_count s)) s.past) (worker_at s.workers i)
  taker_is =
      after-at sys s.workers (BaseTake i (gives_of_each (numbers_below (worker_count s)) s.past)) i in_range
      ∙ ap (λ b. if b then after_taking sys (piece_at sys.pieces i) (gives_of_each (numbers_below (worker_count s)) s.past) (worker_at s.workers i) else worker_at s.workers i) (eq-eqb i i refl)

  -- what the hand gets is what the Take puts in hand
  pub hand_is : all_waiting d.buffer ≡ hand_of (worker_at (state_after sys s (Take i lane)).workers i)
  hand_is =
      ap (λ (b : BufferValues). all_waiting b) (fits.fit i d here).buffer
      ∙ (all_waiting_is sys s i counted in_range
      ∙ (ap (λ l. met_posts sys.equations.order (length (piece_at sys.pieces i).mirrors) l) (sym (hand_is_pending sys (piece_at sys.pieces i) (worker_count s) s.past (worker_at s.workers i) (counted.mail i in_range)))
      ∙ sym (ap (λ (w : Worker). hand_of w) taker_is)))

  pub values_stay : (worker_at (state_after sys s (Take i lane)).workers i).values ≡ (worker_at s.workers i).values
  values_stay = ap (λ (w : Worker). w.values) taker_is

  -- nothing waits for it afterwards, in any class
  none_in_class : (c : Bool) → waiting_in_class c (state_after sys s (Take i lane)) i ≡ []
  none_in_class c =
      nothing_of (λ j b. same_class c (is_tagged j b.number s.past)) (length (state_after sys s (Take i lane)).workers) (worker_at (state_after sys s (Take i lane)).workers i).mail
      (let z = none_waiting sys (piece_at sys.pieces i) (worker_count s) s.past (worker_at s.workers i) (counted.mail i in_range) in
      let k = ap {B = ℕ} (λ (w : Worker). sum_by {X = List Batch} (λ bs. length bs) w.mail) taker_is in
      omega (arith, z, k))

  emptied_is : emptied d.buffer ≡ buffer_of sys (state_after sys s (Take i lane)) i
  emptied_is =
      let o = sys.equations.order in
      let n = length (piece_at sys.pieces i).mirrors in
      let long : length d.buffer.plain ≡ n = ap (λ (b : BufferValues). length b.plain) (fits.fit i d here).buffer ∙ (length-map (numbers_below n) _ ∙ length-range_with_len 0 n) in
      let begun : (worker_at (state_after sys s (Take i lane)).workers i).start_posts ≡ [] = ap (λ (w : Worker). w.start_posts) taker_is in
      let plain = none_in_class false in
      let tagged = none_in_class true in
      let none = no_posts_met o n in
      ap (λ q. new_buffer q (length d.buffer.plain)) (ap (λ (b : BufferValues). b.order) (fits.fit i d here).buffer)
      ∙ (ap (λ m. new_buffer o m) long
      ∙ sym
      ((λ t. record {
        order = o;
        plain = met_posts o n (begun t ++ posts_in (plain t));
        tagged = met_posts o n (posts_in (tagged t));
        plain_batches = (if is_empty (begun t) then 0 else 1) + length (plain t);
        tagged_batches = length (tagged t);
      })
      ∙ λ t. record { order = o; plain = none t; tagged = none t; plain_batches = 0; tagged_batches = 0 }))

  pub taken_fits : (place : ℕ) → place ≡ length s.past → DeskFits sys (state_after sys s (Take i lane)) counters i (taken_desk lane place d)
  taken_fits place at =
      record {
        seat = (
          ap (λ (w : Worker). is_running w) taker_is,
          ap (λ b. if b then Some lane else lane_of i s.past) (eq-eqb i i refl),
          ap (λ b. if b then Some (length s.past) else take_place i s.past) (eq-eqb i i refl) ∙ ap (λ n. Some n) (sym at),
        );
        delay = ap (λ b. if b then None else stretch_of i s.past) (eq-eqb i i refl);
        round = (fits.fit i d here).round;
        pulse = (fits.fit i d here).pulse;
        buffer = emptied_is;
        begun = sym (ap (λ b. b || has_taken i s.past) (eq-eqb i i refl));
      }

  other_is : (j : ℕ) → j < worker_count s → j ≢ i → worker_at (state_after sys s (Take i lane)).workers j ≡ worker_at s.workers j
  other_is j l n =
      after-at sys s.workers (BaseTake i (gives_of_each (numbers_below (worker_count s)) s.past)) j l
      ∙ ap (λ b. if b then after_taking sys (piece_at sys.pieces i) (gives_of_each (numbers_below (worker_count s)) s.past) (worker_at s.workers j) else worker_at s.workers j) (ne_eqb j i n)

  other_buffer : (j : ℕ) → j < worker_count s → j ≢ i → buffer_of sys (state_after sys s (Take i lane)) j ≡ buffer_of sys s j
  other_buffer j l n =
      let long = after-length sys s.workers (BaseTake i (gives_of_each (numbers_below (worker_count s)) s.past)) in
      let w = other_is j l n in
      λ t. buffer_at sys s.past j (long t) (w t)

  others : (j : ℕ) (e : Desk) → j ≢ i → slice_get t.desks j ≡ Some e → DeskFits sys (state_after sys s (Take i lane)) counters j e
  others j e n h =
      let c = fits.count in
      let l = slice_get_within t.desks j e h in
      let below : j < worker_count s = omega (arith, c, l) in
      same_desk sys s (state_after sys s (Take i lane)) counters j e (other_is j below n)
      (ap (λ b. if b then Some lane else lane_of j s.past) (ne_eqb j i n)) (ap (λ b. if b then Some (length s.past) else take_place j s.past) (ne_eqb j i n))
      (ap (λ b. if b then None else stretch_of j s.past) (ne_eqb j i n)) (ap (λ b. b || has_taken j s.past) (ne_eqb j i n)) refl refl (other_buffer j below n) (fits.fit j e h)

  pub take_fits : (place turn' : ℕ) → place ≡ length s.past → turn' ≡ (if nat_lt (i + 1) (length t.desks) then i + 1 else 0) → TablesFit sys (state_after sys s (Take i lane)) counters (taken_in i lane place d turn' t)
  take_fits place turn' at next =
      let long = after-length sys s.workers (BaseTake i (gives_of_each (numbers_below (worker_count s)) s.past)) in
      let more = takes-more (Take i lane) s.past in
      let takes = fits.are_counts.takes in
      record {
        are_routes = fits.are_routes;
        count = length-set t.desks i _ ∙ (fits.count ∙ sym long);
        is_probe = probe_fits sys s (Take i lane) t.probe fits.is_probe;
        is_cut = same_cut sys s (state_after sys s (Take i lane)) t.cut long refl refl refl (λ j. refl) refl fits.is_cut;
        are_counts = record { epoch = fits.are_counts.epoch; takes = omega (arith, more, takes); sealed = fits.are_counts.sealed };
        is_turn = next ∙ ap (λ n. if nat_lt (i + 1) n then i + 1 else 0) (fits.count ∙ sym long);
        fit = λ j e h. elim (set_cases t.desks i j (taken_desk lane place d) e h) [
          | inl k ↦ subst (λ q. DeskFits sys (state_after sys s (Take i lane)) counters q e) (sym k.0) (subst (λ (q : Desk). DeskFits sys (state_after sys s (Take i lane)) counters i q) (sym k.1) (taken_fits place at))
          | inr k ↦ others j e k.0 k.1
        ];
      }
