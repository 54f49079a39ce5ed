-- What a batch leaves at the desk of the worker that gets it.
use Rattle.std.proofs.Common.{◌≡◌, ◌≢◌, ℕ, zero, suc, ◌+◌, ◌<◌, ◌≤◌, inl, inr, Bool, true, false, not, ◌==◌, cond, if◌then◌else◌, refl, sym, ◌∙◌, ap, subst, arith, List, [], ◌∷◌, ◌++◌, length, length-append, length-set, map, filter, flat_map, slice_index, slice_index_or, slice_set, sum_by, take}
use Rattle.std.proofs.lemmas.Bool.{eq-eqb, ne_eqb, cases_eq}
use Rattle.std.proofs.lemmas.List.{append-nil, length-map, get_or-set_same, get_or-set_other, same_lists}
use Rattle.std.proofs.lemmas.List.Elements.{filter-append}
use Rattle.std.proofs.lemmas.List.FromFn.{length-range_with_len, get_or-map-range_with_len}
use Rattle.std.proofs.lemmas.List.Sums.{sum_by-cons, sum_by-set}
use Rattle.value_order.specs.declared.order.Order.{Order}
use Rattle.value_order.specs.Order.{meet_of, meet_all}
use Rattle.graph_core.specs.declared.fragment.Route.{Route}
use Rattle.graph_core.specs.Fragments.{piece_at, numbers_below}
use Rattle.grape_event.specs.declared.event.Event.{Event}
use Rattle.grape_event.specs.declared.event.Event.TheVariants.{Give}
use Rattle.token_cut.specs.Parts.{PartValues}
use Rattle.message_buffer.specs.BufferValues.{BufferValues}
use Rattle.message_buffer.specs.Posted.{same_class}
use Rattle.message_buffer.specs.Buffers.{with_batch, with_post}
use Rattle.base_machine.specs.Machine.{System, Worker, Rest, Post, Batch, worker_at, is_empty, posts_in, posts_to, met_posts, values_for, batches_waiting, after_receiving}
use Rattle.legal_journal.specs.Past.{is_tagged}
use Rattle.legal_journal.specs.Legal.{State, state_after, mail_with}
use Rattle.legal_journal.proofs.Recording.{mail_with-none, part_received, posts_append}
use Rattle.hub_engine.specs.declared.desk.Desk.{Desk}
use Rattle.hub_engine.specs.declared.sender.Sender.{Sender}
use Rattle.hub_engine.specs.Desks.{buffer_of, waiting_in_class}
use Rattle.hub_engine.specs.Posting.{with_posts, with_batch_of}

-- ---- what is posted later

values_here : (p : Post) (posts : List Post) (m : ℕ) → p.mirror ≡ m → values_for m (p ∷ posts) ≡ p.value ∷ values_for m posts
values_here p posts m h = ap (λ b. map (λ q. q.value) (cond b (p ∷ filter (λ q. q.mirror == m) posts) (filter (λ q. q.mirror == m) posts))) (eq-eqb p.mirror m h)

values_elsewhere : (p : Post) (posts : List Post) (m : ℕ) → (p.mirror ≡ m → ⊥) → values_for m (p ∷ posts) ≡ values_for m posts
values_elsewhere p posts m h = ap (λ b. map (λ q. q.value) (cond b (p ∷ filter (λ q. q.mirror == m) posts) (filter (λ q. q.mirror == m) posts))) (ne_eqb p.mirror m h)

mail_with-past : (o : Order) (a : ℕ) (p : Post) (posts : List Post) (xs : List ℕ) → p.mirror < a → mail_with o a posts xs ≡ mail_with o a (p ∷ posts) xs
mail_with-past o a p posts [] h = refl
mail_with-past o a p posts (x ∷ xs) h =
    let n = values_elsewhere p posts a (λ e. absurd (omega (arith, h, e))) in
    let r = mail_with-past o (a + 1) p posts xs (omega (arith, h)) in
    λ i. meet_all o x (sym n i) ∷ r i

mail_with-post : (o : Order) (a k : ℕ) (p : Post) (posts : List Post) (xs : List ℕ) → p.mirror ≡ a + k → mail_with o a posts (slice_set xs k (meet_of o (slice_index xs k) p.value)) ≡ mail_with o a (p ∷ posts) xs
mail_with-post o a k p posts [] h = refl
mail_with-post o a zero p posts (x ∷ xs) h =
    let n = values_here p posts a (omega (arith, h)) in
    let r = mail_with-past o (a + 1) p posts xs (omega (arith, h)) in
    λ i. meet_all o x (sym n i) ∷ r i
mail_with-post o a (suc k) p posts (x ∷ xs) h =
    let n = values_elsewhere p posts a (λ e. absurd (omega (arith, h, e))) in
    let r = mail_with-post o (a + 1) k p posts xs (omega (arith, h)) in
    λ i. meet_all o x (sym n i) ∷ r i

-- posts in a class lower what waits in it
pub plain_posts : (posts : List Post) (b : BufferValues) → with_posts false posts b ≡ record b { plain = mail_with b.order 0 posts b.plain }
plain_posts [] b = ap (λ l. record b { plain = l }) (sym (mail_with-none b.order 0 b.plain))
plain_posts (p ∷ posts) b =
    plain_posts posts (with_post false p.mirror p.value b)
    ∙ ap (λ l. record b { plain = l }) (mail_with-post b.order 0 p.mirror p posts b.plain (omega arith))

tagged_posts : (posts : List Post) (b : BufferValues) → with_posts true posts b ≡ record b { tagged = mail_with b.order 0 posts b.tagged }
tagged_posts [] b = ap (λ l. record b { tagged = l }) (sym (mail_with-none b.order 0 b.tagged))
tagged_posts (p ∷ posts) b =
    tagged_posts posts (with_post true p.mirror p.value b)
    ∙ ap (λ l. record b { tagged = l }) (mail_with-post b.order 0 p.mirror p posts b.tagged (omega arith))

-- ---- a batch

one_more_waits : (j number : ℕ) (p : Post) (posts : List Post) (w : Worker) → j < length w.mail → batches_waiting (after_receiving j number (p ∷ posts) w) ≡ batches_waiting w + 1
one_more_waits j number p posts w h =
    let q = slice_index_or w.mail j [] in
    let b : Batch = record { number = number; posts = p ∷ posts } in
    let s = sum_by-set {X = List Batch} (λ bs. length bs) w.mail j (q ++ b ∷ []) [] h in
    let l = length-append q (b ∷ []) in
    let start : ℕ = if is_empty w.start_posts then 0 else 1 in
    omega (arith, s, l)

-- ---- the classes as queues

-- the batches of a class from worker q that wait for worker i
abbrev queue_in : Bool → State → ℕ → ℕ → List Batch
queue_in tagged s i q = filter (λ b. same_class tagged (is_tagged q b.number s.past)) (slice_index_or (worker_at s.workers i).mail q [])

-- a worker for which the batches of a class wait, beside the posts of a start
abbrev in_class : Bool → List Post → State → ℕ → Worker
in_class tagged start s i = record { standing = Rest; values = []; gives = 0; start_posts = start; mail = map (queue_in tagged s i) (numbers_below (length s.workers)) }

flat_posts : (f : ℕ → List Batch) (qs : List ℕ) → posts_in (flat_map f qs) ≡ flat_map posts_in (map f qs)
flat_posts f [] = refl
flat_posts f (q ∷ qs) = posts_append (f q) (flat_map f qs) ∙ ap (λ l. posts_in (f q) ++ l) (flat_posts f qs)

flat_count : (f : ℕ → List Batch) (qs : List ℕ) → length (flat_map f qs) ≡ sum_by {X = List Batch} (λ bs. length bs) (map f qs)
flat_count f [] = refl
flat_count f (q ∷ qs) =
    let a = length-append (f q) (flat_map f qs) in
    let b = sum_by-cons {X = List Batch} (λ bs. length bs) (f q) (map f qs) in
    let c = flat_count f qs in
    omega (arith, a, b, c)

-- ---- the mail of a worker after a Give

-- the buffer with the mail of this worker, by the words of a past, among so many workers
abbrev buffer_with : System → ℕ → List Event → Worker → ℕ → BufferValues
buffer_with sys i past w n =
    let mirrors = length (piece_at sys.pieces i).mirrors in
    let plain = flat_map (λ q. filter (λ b. same_class false (is_tagged q b.number past)) (slice_index_or w.mail q [])) (numbers_below n) in
    let tagged = flat_map (λ q. filter (λ b. same_class true (is_tagged q b.number past)) (slice_index_or w.mail q [])) (numbers_below n) in
    record {
      order = sys.equations.order;
      plain = met_posts sys.equations.order mirrors (w.start_posts ++ posts_in plain);
      tagged = met_posts sys.equations.order mirrors (posts_in tagged);
      plain_batches = (if is_empty w.start_posts then 0 else 1) + length plain;
      tagged_batches = length tagged;
    }

-- the batch of the start, where there is one
abbrev one_batch : List Post → ℕ
one_batch ps = if is_empty ps then 0 else 1

one_more : (a b m n : ℕ) → a ≡ b → m + 1 ≡ n → a + m + 1 ≡ b + n
one_more a b m n e f = omega (arith, e, f)

-- where its mail stays, so does its buffer
pub mail_stays : (sys : System) (s : State) (i j : ℕ) (w : Worker) → length (state_after sys s (Give i)).workers ≡ length s.workers → worker_at (state_after sys s (Give i)).workers j ≡ w → w.mail ≡ (worker_at s.workers j).mail → w.start_posts ≡ (worker_at s.workers j).start_posts →
    buffer_of sys s j ≡ buffer_of sys (state_after sys s (Give i)) j
mail_stays sys s i j w long is mail start =
    sym (ap (λ n. buffer_with sys j s.past (worker_at (state_after sys s (Give i)).workers j) n) long
    ∙ (ap (λ (x : Worker). buffer_with sys j s.past x (length s.workers)) is
    ∙ (ap (λ (m : List (List Batch)). buffer_with sys j s.past (record w { mail = m }) (length s.workers)) mail
    ∙ ap (λ (ps : List Post). buffer_with sys j s.past (record (worker_at s.workers j) { start_posts = ps }) (length s.workers)) start)))

module _ (sys : System) (s : State) (i j number : ℕ) (p : Post) (posts : List Post) (long : length (state_after sys s (Give i)).workers ≡ length s.workers) (inside : i < length s.workers)
    (queues : length (worker_at s.workers j).mail ≡ length s.workers) (is : worker_at (state_after sys s (Give i)).workers j ≡ after_receiving i number (p ∷ posts) (worker_at s.workers j)) where
  abbrev next : State
  next = state_after sys s (Give i)

  abbrev batch : Batch
  batch = record { number = number; posts = p ∷ posts }

  abbrev mail : List (List Batch)
  mail = (worker_at s.workers j).mail

  abbrev before : Bool → List (List Batch)
  before c = map (queue_in c s j) (numbers_below (length s.workers))

  abbrev after : Bool → List (List Batch)
  after c = map (queue_in c next j) (numbers_below (length next.workers))

  abbrev of_class : Bool → ℕ → Batch → Bool
  of_class c q b = same_class c (is_tagged q b.number s.past)

  queue_after : (c : Bool) (q : ℕ) → queue_in c next j q ≡ filter (of_class c q) (slice_index_or (slice_set mail i (slice_index_or mail i [] ++ batch ∷ [])) q [])
  queue_after c q = ap (λ (w : Worker). filter (of_class c q) (slice_index_or w.mail q [])) is

  queue_elsewhere : (c : Bool) (q : ℕ) → q ≢ i → queue_in c next j q ≡ queue_in c s j q
  queue_elsewhere c q n = queue_after c q ∙ ap (filter (of_class c q)) (get_or-set_other mail i q (slice_index_or mail i [] ++ batch ∷ []) [] n)

  queue_here : (c : Bool) → queue_in c next j i ≡ queue_in c s j i ++ cond (same_class c (is_tagged i number s.past)) (batch ∷ []) []
  queue_here c =
      let l : i < length mail = omega (arith, inside, queues) in
      queue_after c i
      ∙ (ap (filter (of_class c i)) (get_or-set_same mail i (slice_index_or mail i [] ++ batch ∷ []) [] l)
      ∙ filter-append (of_class c i) (slice_index_or mail i []) (batch ∷ []))

  at_before : (c : Bool) (k : ℕ) (d : List Batch) → k < length s.workers → slice_index_or (before c) k d ≡ queue_in c s j k
  at_before c k d h = get_or-map-range_with_len (queue_in c s j) 0 (length s.workers) k k d h (omega arith)

  count_before : (c : Bool) → length (before c) ≡ length s.workers
  count_before c = length-map (numbers_below (length s.workers)) (queue_in c s j) ∙ length-range_with_len 0 (length s.workers)

  -- the batch comes last in its queue of its class
  queues_received : (c : Bool) → same_class c (is_tagged i number s.past) ≡ true → after c ≡ slice_set (before c) i (slice_index_or (before c) i [] ++ batch ∷ [])
  queues_received c same =
      let y = slice_index_or (before c) i [] ++ batch ∷ [] in
      let m = count_before c in
      let n = length-map (numbers_below (length s.workers)) (queue_in c next j) ∙ length-range_with_len 0 (length s.workers) in
      let z = length-set (before c) i y in
      ap (λ m. map (queue_in c next j) (numbers_below m)) long
      ∙ same_lists (map (queue_in c next j) (numbers_below (length s.workers))) (slice_set (before c) i y) (omega (arith, m, n, z))
      (λ k d h.
      let h' : k < length s.workers = omega (arith, h, n) in
      get_or-map-range_with_len (queue_in c next j) 0 (length s.workers) k k d h' (omega arith)
      ∙ elim (cases_eq k i) [
        | inl e ↦
            let P : ℕ → Type 0 = λ q. queue_in c next j q ≡ slice_index_or (slice_set (before c) i y) q d in
            subst P (sym e)
            (queue_here c
            ∙ (ap (λ b. queue_in c s j i ++ cond b (batch ∷ []) []) same
            ∙ (ap (λ l. l ++ batch ∷ []) (sym (at_before c i [] inside)) ∙ sym (get_or-set_same (before c) i y d (omega (arith, inside, m))))))
        | inr e ↦ queue_elsewhere c k e ∙ (sym (at_before c k d h') ∙ sym (get_or-set_other (before c) i k y d e))
      ])

  -- the other class stays
  queues_stay : (c : Bool) → same_class c (is_tagged i number s.past) ≡ false → after c ≡ before c
  queues_stay c other =
      let m = count_before c in
      let n = length-map (numbers_below (length s.workers)) (queue_in c next j) ∙ length-range_with_len 0 (length s.workers) in
      ap (λ m. map (queue_in c next j) (numbers_below m)) long
      ∙ same_lists (map (queue_in c next j) (numbers_below (length s.workers))) (before c) (omega (arith, m, n))
      (λ k d h.
      let h' : k < length s.workers = omega (arith, h, n) in
      get_or-map-range_with_len (queue_in c next j) 0 (length s.workers) k k d h' (omega arith)
      ∙ (elim (cases_eq k i) [
        | inl e ↦
            let P : ℕ → Type 0 = λ q. queue_in c next j q ≡ queue_in c s j q in
            subst P (sym e) (queue_here c ∙ (ap (λ b. queue_in c s j i ++ cond b (batch ∷ []) []) other ∙ append-nil (queue_in c s j i)))
        | inr e ↦ queue_elsewhere c k e
      ]
      ∙ sym (at_before c k d h')))

  abbrev o : Order
  o = sys.equations.order

  abbrev mirrors : ℕ
  mirrors = length (piece_at sys.pieces j).mirrors

  posts_received : (c : Bool) (start : List Post) → same_class c (is_tagged i number s.past) ≡ true →
      mail_with o 0 (p ∷ posts) (met_posts o mirrors (start ++ posts_in (waiting_in_class c s j))) ≡ met_posts o mirrors (start ++ posts_in (waiting_in_class c next j))
  posts_received c start same =
      let m = count_before c in
      ap (λ l. mail_with o 0 (p ∷ posts) (met_posts o mirrors (start ++ l))) (flat_posts (queue_in c s j) (numbers_below (length s.workers)))
      ∙ (ap (λ (part : PartValues). part.mail) (part_received sys (piece_at sys.pieces j) i number (p ∷ posts) (in_class c start s j) (omega (arith, inside, m)))
      ∙ (ap (λ qs. met_posts o mirrors (start ++ flat_map posts_in qs)) (sym (queues_received c same))
      ∙ ap (λ l. met_posts o mirrors (start ++ l)) (sym (flat_posts (queue_in c next j) (numbers_below (length next.workers))))))

  posts_stay : (c : Bool) → same_class c (is_tagged i number s.past) ≡ false → posts_in (waiting_in_class c s j) ≡ posts_in (waiting_in_class c next j)
  posts_stay c other =
      flat_posts (queue_in c s j) (numbers_below (length s.workers))
      ∙ (ap (λ qs. flat_map posts_in qs) (sym (queues_stay c other)) ∙ sym (flat_posts (queue_in c next j) (numbers_below (length next.workers))))

  count_received : (c : Bool) → same_class c (is_tagged i number s.past) ≡ true → length (waiting_in_class c s j) + 1 ≡ length (waiting_in_class c next j)
  count_received c same =
      let m = count_before c in
      let a = flat_count (queue_in c s j) (numbers_below (length s.workers)) in
      let b = one_more_waits i number p posts (in_class c [] s j) (omega (arith, inside, m)) in
      let d = ap (λ qs. sum_by {X = List Batch} (λ bs. length bs) qs) (queues_received c same) in
      let e = flat_count (queue_in c next j) (numbers_below (length next.workers)) in
      omega (arith, a, b, d, e)

  count_stays : (c : Bool) → same_class c (is_tagged i number s.past) ≡ false → length (waiting_in_class c s j) ≡ length (waiting_in_class c next j)
  count_stays c other =
      flat_count (queue_in c s j) (numbers_below (length s.workers))
      ∙ (ap (λ qs. sum_by {X = List Batch} (λ bs. length bs) qs) (sym (queues_stay c other)) ∙ sym (flat_count (queue_in c next j) (numbers_below (length next.workers))))

  start_is : (worker_at s.workers j).start_posts ≡ (worker_at next.workers j).start_posts
  start_is = sym (ap (λ (w : Worker). w.start_posts) is)

  start_counts : one_batch (worker_at s.workers j).start_posts ≡ one_batch (worker_at next.workers j).start_posts
  start_counts = ap (λ (ps : List Post). one_batch ps) start_is

  -- a batch of a class, with its posts
  batch_received : (tagged : Bool) → is_tagged i number s.past ≡ tagged → with_posts tagged (p ∷ posts) (with_batch tagged (buffer_of sys s j)) ≡ buffer_of sys next j
  batch_received true tag =
      let begun = (worker_at s.workers j).start_posts in
      let other = ap not tag in
      let plain = ap (λ l. met_posts o mirrors (begun ++ l)) (posts_stay false other) ∙ ap (λ (ps : List Post). met_posts o mirrors (ps ++ posts_in (waiting_in_class false next j))) start_is in
      let tagged = posts_received true [] tag in
      let count = count_stays false other in
      let first = start_counts in
      let more = count_received true tag in
      tagged_posts (p ∷ posts) (with_batch true (buffer_of sys s j))
      ∙ λ t. record {
        order = o;
        plain = plain t;
        tagged = tagged t;
        plain_batches = first t + count t;
        tagged_batches = more t;
      }
  batch_received false tag =
      let begun = (worker_at s.workers j).start_posts in
      let same = ap not tag in
      let plain = posts_received false begun same ∙ ap (λ (ps : List Post). met_posts o mirrors (ps ++ posts_in (waiting_in_class false next j))) start_is in
      let tagged = ap (λ l. met_posts o mirrors l) (posts_stay true tag) in
      let count = count_received false same in
      let first = start_counts in
      let one = one_more (one_batch (worker_at s.workers j).start_posts) (one_batch (worker_at next.workers j).start_posts) (length (waiting_in_class false s j)) (length (waiting_in_class false next j)) first count in
      let more = count_stays true tag in
      plain_posts (p ∷ posts) (with_batch false (buffer_of sys s j))
      ∙ λ t. record {
        order = o;
        plain = plain t;
        tagged = tagged t;
        plain_batches = one t;
        tagged_batches = more t;
      }

-- the buffer of another worker than the giver, which gets these posts
pub received_buffer : (sys : System) (s : State) (sender : Sender) (i j number : ℕ) (posts : List Post) (d : Desk) → length (state_after sys s (Give i)).workers ≡ length s.workers → i < length s.workers → length (worker_at s.workers j).mail ≡ length s.workers →
    worker_at (state_after sys s (Give i)).workers j ≡ after_receiving i number posts (worker_at s.workers j) → sender.tagged ≡ is_tagged i number s.past → d.buffer ≡ buffer_of sys s j → (with_batch_of sender posts d).buffer ≡ buffer_of sys (state_after sys s (Give i)) j
received_buffer sys s sender i j number [] d long inside queues is tag e = e ∙ mail_stays sys s i j (worker_at s.workers j) long is refl refl
received_buffer sys s sender i j number (p ∷ posts) d long inside queues is tag e =
    ap (λ (b : BufferValues). with_posts sender.tagged (p ∷ posts) (with_batch sender.tagged b)) e ∙ batch_received sys s i j number p posts long inside queues is sender.tagged (sym tag)

-- ---- a desk that gets a batch

-- its values and its delay stay
pub seat_stays : (sender : Sender) (posts : List Post) (d : Desk) → ((with_batch_of sender posts d).seat ≡ d.seat) × ((with_batch_of sender posts d).delay ≡ d.delay) × ((with_batch_of sender posts d).begun ≡ d.begun)
seat_stays sender [] d = (refl, refl, refl)
seat_stays sender (p ∷ posts) d = (refl, refl, refl)

-- ---- what lies beyond the routes

pub posts_to-take : (k n : ℕ) (old new : List ℕ) (routes : List (List Route)) → length routes ≤ n → posts_to k (take n old) new routes ≡ posts_to k old new routes
posts_to-take k n old new [] h = refl
posts_to-take k zero old new (r ∷ routes) h = absurd (omega (arith, h))
posts_to-take k (suc n) [] new (r ∷ routes) h = refl
posts_to-take k (suc n) (a ∷ old) [] (r ∷ routes) h = refl
posts_to-take k (suc n) (a ∷ old) (b ∷ new) (r ∷ routes) h =
    ap (λ l. (if a == b then [] else map (λ (t : Route). record { mirror = t.mirror; value = b }) (filter (λ (t : Route). t.fragment == k) r)) ++ l) (posts_to-take k n old new routes (omega (arith, h)))
