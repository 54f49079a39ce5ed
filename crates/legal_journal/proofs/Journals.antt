-- The Takes and Gives of a legal journal are a run.
use Rattle.std.proofs.Common.{◌≡◌, ℕ, zero, suc, ◌+◌, ◌<◌, ◌≤◌, ◌⊎◌, inl, inr, Bool, true, false, not, ◌&&◌, ◌==◌, nat_lt, nat_le, cond, if◌then◌else◌, IsTrue, refl, sym, ◌∙◌, ap, subst, arith, List, [], ◌∷◌, ◌++◌, length, filter, slice_index, slice_index_or, slice_set, length-set, replicate, sum_by}
use Rattle.std.specs.List.{AllByRecursion}
use Rattle.std.proofs.lemmas.Bool.{and_parts, and_from, or_cases, or_left, or_right, eq-eqb, cases_eq, cases_lt, ltb-true, le-leb}
use Rattle.std.proofs.lemmas.List.Sums.{sum_by-cons}
use Rattle.std.proofs.lemmas.List.FromFn.{length-range_with_len, get_or-range_with_len}
use Rattle.graph_core.specs.Fragments.{piece_at, numbers_below}
use Rattle.grape_event.specs.declared.event.Event.{Event}
use Rattle.grape_event.specs.declared.event.Event.TheVariants.{Take, Give, Stretch, Hold, Flag, Ask, Ack, Nack, Begin, Mark, Seal, Kept, End, Stop}
use Rattle.base_machine.specs.Machine.{System, BaseState, BaseEvent, BaseTake, BaseGive, Worker, Batch, Post, worker_at, is_fresh, rests, is_empty, batch_waits, taken_batches, takes_a_batch, after_taking, after_giving, after_receiving, sent_to, base_after, is_allowed, base_state_of, worker_of, no_worker}
use Rattle.token_cut.specs.Parts.{SnapshotParts}
use Rattle.legal_journal.specs.Past.{gives_of, gives_of_each}
use Rattle.base_machine.specs.Runs.{Runs}
use Rattle.legal_journal.specs.BaseEvents.{base_event, base_events_where}
use Rattle.legal_journal.specs.Legal.{State, start_state, state_after, state_after_all, is_admitted, row_admits, are_admitted, workers_after, worker_count, rests_with_mail, no_part}
use Rattle.legal_journal.specs.Theorems.{JournalRuns}
use Rattle.std.proofs.lemmas.List.{get_or-set_same, get_or-set_other, get_or-map, length-map, length-replicate}
use Rattle.grape_event.specs.Events.{is_give_of}
use Rattle.base_machine.proofs.Posts.{all_append, all_since, left_all}
use Rattle.base_machine.proofs.Taking.{length-left_batches}
use Rattle.base_machine.proofs.Swapping.{after-length, after-at, made_of}

-- ---- numbers in queues

-- queue j has numbers up to what upto says
abbrev AreUpTo : List ℕ → List (List Batch) → Type 0
AreUpTo upto mail = (k : ℕ) → AllByRecursion (λ (b : Batch). b.number ≤ slice_index upto k) (slice_index_or mail k [])

-- where something waits that upto reaches, something is taken
some_taken : (upto : List ℕ) (mail : List (List Batch)) → length mail ≡ length upto → AreUpTo upto mail → 0 < sum_by length mail → is_empty (taken_batches upto mail) ≡ false
some_taken [] [] e h p = absurd (omega (arith, p))
some_taken [] (m ∷ mail) e h p = absurd (omega (arith, e))
some_taken (u ∷ upto) [] e h p = absurd (omega (arith, e))
some_taken (u ∷ upto) ([] ∷ mail) e h p =
    let s = sum_by-cons {X = List Batch} length [] mail in
    some_taken upto mail (omega (arith, e)) (λ k. h (suc k)) (omega (arith, s, p))
some_taken (u ∷ upto) ((b ∷ bs) ∷ mail) e h p =
    ap (λ t. is_empty (cond t (b ∷ filter (λ c. nat_le c.number u) bs) (filter (λ c. nat_le c.number u) bs) ++ taken_batches upto mail)) (le-leb b.number u (h 0).0)

each-length : (is : List ℕ) (past : List Event) → length (gives_of_each is past) ≡ length is
each-length [] past = refl
each-length (i ∷ is) past = let k = each-length is past in omega (arith, k)

each-at : (is : List ℕ) (past : List Event) (k : ℕ) → k < length is → slice_index (gives_of_each is past) k ≡ gives_of (slice_index is k) past
each-at [] past k h = absurd (omega (arith, h))
each-at (i ∷ is) past zero h = refl
each-at (i ∷ is) past (suc k) h = each-at is past k (omega (arith, h))

pub counts-length : (n : ℕ) (past : List Event) → length (gives_of_each (numbers_below n) past) ≡ n
counts-length n past = each-length (numbers_below n) past ∙ length-range_with_len 0 n

pub counts-at : (n : ℕ) (past : List Event) (k : ℕ) → k < n → slice_index (gives_of_each (numbers_below n) past) k ≡ gives_of k past
counts-at n past k h =
    let l = length-range_with_len 0 n in
    each-at (numbers_below n) past k (omega (arith, l, h)) ∙ ap (λ j. gives_of j past) (get_or-range_with_len 0 n k 0 h ∙ omega arith)

-- every pending batch is of a Give so far
pub record IsCounted (n : ℕ) (past : List Event) (w : Worker) : Type 0 where
  pub senders : length w.mail ≡ n
  pub numbers : (j : ℕ) → j < n → AllByRecursion (λ (b : Batch). b.number ≤ gives_of j past) (slice_index_or w.mail j [])

no_queue : (mail : List (List Batch)) (k : ℕ) → length mail ≤ k → slice_index_or mail k [] ≡ []
no_queue [] k h = refl
no_queue (m ∷ mail) zero h = absurd (omega (arith, h))
no_queue (m ∷ mail) (suc k) h = no_queue mail k (omega (arith, h))

counted-upto : (n : ℕ) (past : List Event) (w : Worker) → IsCounted n past w → AreUpTo (gives_of_each (numbers_below n) past) w.mail
counted-upto n past w c k =
    elim (cases_lt k n) [
      | inl h ↦ subst (λ m. AllByRecursion (λ (b : Batch). b.number ≤ m) (slice_index_or w.mail k [])) (sym (counts-at n past k h)) (c.numbers k h)
      | inr h ↦
          let l = c.senders in
          subst (AllByRecursion (λ (b : Batch). b.number ≤ slice_index (gives_of_each (numbers_below n) past) k)) (sym (no_queue w.mail k (omega (arith, l, h)))) tt
    ]

-- a worker for which a batch waits takes one
takes_one : (n : ℕ) (past : List Event) (w : Worker) → IsCounted n past w → IsTrue (batch_waits w) → IsTrue (takes_a_batch (gives_of_each (numbers_below n) past) w)
takes_one n past w c h = go w.start_posts h
  where
    go : (posts : List Post) → IsTrue (nat_lt 0 ((if is_empty posts then 0 else 1) + sum_by length w.mail)) → IsTrue (not (is_empty posts && is_empty (taken_batches (gives_of_each (numbers_below n) past) w.mail)))
    go [] h =
        let l = counts-length n past in
        let s = c.senders in
        let p = ltb-true 0 (0 + sum_by length w.mail) h in
        ap not (some_taken (gives_of_each (numbers_below n) past) w.mail (omega (arith, l, s)) (counted-upto n past w c) (omega (arith, p)))
    go (p ∷ posts) h = refl

-- ---- the base event of an event is allowed

pub record AreCounted (n : ℕ) (s : State) : Type 0 where
  pub count : length s.workers ≡ n
  pub gives : (j : ℕ) → j < n → (worker_at s.workers j).gives ≡ gives_of j s.past
  pub mail : (i : ℕ) → i < n → IsCounted n s.past (worker_at s.workers i)

pub take_allowed : (sys : System) (s : State) (i k : ℕ) → AreCounted (worker_count s) s → IsTrue (row_admits sys s (Take i k)) → IsTrue (is_allowed s.workers (BaseTake i (gives_of_each (numbers_below (worker_count s)) s.past)))
take_allowed sys s i k c h =
    let w = worker_at s.workers i in
    let n = worker_count s in
    let upto = gives_of_each (numbers_below n) s.past in
    let row = and_parts _ _ h in
    let in_range = ltb-true i n row.0 in
    let ready = (and_parts _ _ (and_parts _ _ (and_parts _ _ (and_parts _ _ row.1).0).0).0).1 in
    and_from _ _ (and_from _ _ row.0 (eq-eqb (length upto) n (counts-length n s.past)))
    (elim (or_cases _ _ ready) [
      | inl f ↦ or_left (is_fresh w) (rests w && takes_a_batch upto w) f
      | inr r ↦
          let both = and_parts (rests w) (batch_waits w) (and_parts (rests_with_mail s i) _ r).0 in
          or_right (is_fresh w) (rests w && takes_a_batch upto w) (and_from (rests w) (takes_a_batch upto w) both.0 (takes_one n s.past w (c.mail i in_range) both.1))
    ])

pub give_allowed : (sys : System) (s : State) (i : ℕ) → IsTrue (row_admits sys s (Give i)) → IsTrue (is_allowed s.workers (BaseGive i))
give_allowed sys s i h = h

-- ---- what the events leave

gives-more : (j : ℕ) (e : Event) (past : List Event) → gives_of j (e ∷ past) ≡ cond (is_give_of j e) 1 0 + gives_of j past
gives-more j e past = sum_by-cons (λ x. cond (is_give_of j x) 1 0) e past

gives-le : (j : ℕ) (e : Event) (past : List Event) → gives_of j past ≤ gives_of j (e ∷ past)
gives-le j e past = let m = gives-more j e past in omega (arith, m)

no_give : (j : ℕ) (e : Event) (past : List Event) → is_give_of j e ≡ false → gives_of j (e ∷ past) ≡ gives_of j past
no_give j e past h = let m = gives-more j e past in let k = ap {B = ℕ} (λ b. cond b 1 0) h in omega (arith, m, k)

up_to_more : (a b : ℕ) → a ≤ b → (bs : List Batch) → AllByRecursion (λ (c : Batch). c.number ≤ a) bs → AllByRecursion (λ (c : Batch). c.number ≤ b) bs
up_to_more a b h bs k = all_since (λ (c : Batch). c.number ≤ a) (λ (c : Batch). c.number ≤ b) (λ c l. omega (arith, h, l)) bs k

counted_later : (n : ℕ) (e : Event) (past : List Event) (w : Worker) → IsCounted n past w → IsCounted n (e ∷ past) w
counted_later n e past w c = record { senders = c.senders; numbers = λ j h. up_to_more _ _ (gives-le j e past) _ (c.numbers j h) }

-- an event that is no Take and no Give
neutral : (n : ℕ) (sys : System) (s : State) (e : Event) → workers_after sys s e ≡ s.workers → ((j : ℕ) → is_give_of j e ≡ false) → AreCounted n s → AreCounted n (state_after sys s e)
neutral n sys s e ew ng c =
    record {
      count = ap (λ (ws : BaseState). length ws) ew ∙ c.count;
      gives = λ j h. ap (λ (ws : BaseState). (worker_at ws j).gives) ew ∙ (c.gives j h ∙ sym (no_give j e s.past (ng j)));
      mail = λ i h. subst (λ (ws : BaseState). IsCounted n (e ∷ s.past) (worker_at ws i)) (sym ew) (counted_later n e s.past (worker_at s.workers i) (c.mail i h));
    }

after_take_counted : (n : ℕ) (sys : System) (s : State) (i k : ℕ) → AreCounted n s → AreCounted n (state_after sys s (Take i k))
after_take_counted n sys s i k c =
    record {
      count = after-length sys s.workers e ∙ c.count;
      gives = λ j h. ap (λ (w : Worker). w.gives) (at j h) ∙ (same_gives (j == i) (worker_at s.workers j) ∙ (c.gives j h ∙ sym (no_give j (Take i k) s.past refl)));
      mail = λ j h. subst (IsCounted n (Take i k ∷ s.past)) (sym (at j h)) (still (j == i) (worker_at s.workers j) (counted_later n (Take i k) s.past (worker_at s.workers j) (c.mail j h)));
    }
  where
    upto : List ℕ
    upto = gives_of_each (numbers_below (worker_count s)) s.past

    e : BaseEvent
    e = BaseTake i (gives_of_each (numbers_below (worker_count s)) s.past)

    at : (j : ℕ) → j < n → worker_at (base_after sys s.workers (BaseTake i (gives_of_each (numbers_below (worker_count s)) s.past))) j ≡ made_of sys s.workers (BaseTake i (gives_of_each (numbers_below (worker_count s)) s.past)) j (worker_at s.workers j)
    at j h = let l = c.count in after-at sys s.workers (BaseTake i (gives_of_each (numbers_below (worker_count s)) s.past)) j (omega (arith, h, l))

    same_gives : (b : Bool) (w : Worker) → (if b then after_taking sys (piece_at sys.pieces i) (gives_of_each (numbers_below (worker_count s)) s.past) w else w).gives ≡ w.gives
    same_gives true w = refl
    same_gives false w = refl

    still : (b : Bool) (w : Worker) → IsCounted n (Take i k ∷ s.past) w → IsCounted n (Take i k ∷ s.past) (if b then after_taking sys (piece_at sys.pieces i) (gives_of_each (numbers_below (worker_count s)) s.past) w else w)
    still true w d =
        let l = counts-length (worker_count s) s.past in
        let m = c.count in
        let t = d.senders in
        record {
          senders = length-left_batches (gives_of_each (numbers_below (worker_count s)) s.past) w.mail (omega (arith, l, m, t)) ∙ t;
          numbers = λ j h. left_all (λ (b : Batch). b.number ≤ gives_of j (Take i k ∷ s.past)) (gives_of_each (numbers_below (worker_count s)) s.past) w.mail j (d.numbers j h);
        }
    still false w d = d

received_numbers : (n : ℕ) (past : List Event) (i number : ℕ) (posts : List Post) (w : Worker) → i < n → number ≤ gives_of i past → IsCounted n past w → IsCounted n past (after_receiving i number posts w)
received_numbers n past i number [] w hi h c = c
received_numbers n past i number (p ∷ posts) w hi h c =
    record {
      senders = length-set w.mail i _ ∙ c.senders;
      numbers = λ j hj. at j hj (cases_eq j i);
    }
  where
    at : (j : ℕ) → j < n → (j ≡ i) ⊎ (j ≡ i → ⊥) → AllByRecursion (λ (b : Batch). b.number ≤ gives_of j past) (slice_index_or (slice_set w.mail i (slice_index_or w.mail i [] ++ record { number = number; posts = p ∷ posts } ∷ [])) j [])
    at j hj (inl e) =
        let l = c.senders in
        let P : ℕ → Type 0 = λ q. AllByRecursion (λ (b : Batch). b.number ≤ gives_of q past) (slice_index_or (slice_set w.mail i (slice_index_or w.mail i [] ++ record { number = number; posts = p ∷ posts } ∷ [])) q []) in
        let Q : Batch → Type 0 = λ b. b.number ≤ gives_of i past in
        subst P (sym e) (subst (AllByRecursion Q) (sym (get_or-set_same w.mail i (slice_index_or w.mail i [] ++ record { number = number; posts = p ∷ posts } ∷ []) [] (omega (arith, l, hi))))
        (all_append Q (slice_index_or w.mail i []) (record { number = number; posts = p ∷ posts } ∷ []) (c.numbers i hi) (h, tt)))
    at j hj (inr d) = subst (AllByRecursion (λ (b : Batch). b.number ≤ gives_of j past)) (sym (get_or-set_other w.mail i j _ [] d)) (c.numbers j hj)

after_give_counted : (n : ℕ) (sys : System) (s : State) (i : ℕ) → i < n → AreCounted n s → AreCounted n (state_after sys s (Give i))
after_give_counted n sys s i hi c =
    record {
      count = after-length sys s.workers (BaseGive i) ∙ c.count;
      gives = λ j h. ap (λ (w : Worker). w.gives) (at j h) ∙ (new_gives j h (j == i) (sent_to sys (piece_at sys.pieces i) (worker_at s.workers i) j) ∙ sym (gives-more j (Give i) s.past));
      mail = λ j h. subst (IsCounted n (Give i ∷ s.past)) (sym (at j h)) (still (j == i) j (worker_at s.workers j) (counted_later n (Give i) s.past (worker_at s.workers j) (c.mail j h)));
    }
  where
    at : (j : ℕ) → j < n → worker_at (base_after sys s.workers (BaseGive i)) j ≡ made_of sys s.workers (BaseGive i) j (worker_at s.workers j)
    at j h = let l = c.count in after-at sys s.workers (BaseGive i) j (omega (arith, h, l))

    new_gives : (j : ℕ) → j < n → (b : Bool) (posts : List Post) →
        (if b then after_giving sys (piece_at sys.pieces i) (worker_at s.workers j) else after_receiving i ((worker_at s.workers i).gives + 1) posts (worker_at s.workers j)).gives ≡ cond b 1 0 + gives_of j s.past
    new_gives j h true posts = let g = c.gives j h in omega (arith, g)
    new_gives j h false [] = let g = c.gives j h in omega (arith, g)
    new_gives j h false (p ∷ posts) = let g = c.gives j h in omega (arith, g)

    one_more : (worker_at s.workers i).gives + 1 ≤ gives_of i (Give i ∷ s.past)
    one_more =
        let g = c.gives i hi in
        let m = gives-more i (Give i) s.past in
        let k = ap {B = ℕ} (λ b. cond b 1 0) (eq-eqb i i refl) in
        omega (arith, g, m, k)

    still : (b : Bool) (j : ℕ) (w : Worker) → IsCounted n (Give i ∷ s.past) w →
        IsCounted n (Give i ∷ s.past) (if b then after_giving sys (piece_at sys.pieces i) w else after_receiving i ((worker_at s.workers i).gives + 1) (sent_to sys (piece_at sys.pieces i) (worker_at s.workers i) j) w)
    still true j w d = record { senders = d.senders; numbers = d.numbers }
    still false j w d = received_numbers n (Give i ∷ s.past) i ((worker_at s.workers i).gives + 1) (sent_to sys (piece_at sys.pieces i) (worker_at s.workers i) j) w hi one_more d

pub no_mail : (n j : ℕ) → slice_index_or {A = List Batch} (replicate n []) j [] ≡ []
no_mail zero j = refl
no_mail (suc n) zero = refl
no_mail (suc n) (suc j) = no_mail n j

-- ---- a legal journal from a counted state

pub event_counted : (n : ℕ) (sys : System) (s : State) (e : Event) → IsTrue (row_admits sys s e) → AreCounted n s → AreCounted n (state_after sys s e)
event_counted n sys s (Take i k) h c = after_take_counted n sys s i k c
event_counted n sys s (Give i) h c = let l = ltb-true i (worker_count s) (and_parts _ _ h).0 in let m = c.count in after_give_counted n sys s i (omega (arith, l, m)) c
event_counted n sys s (Stretch i t) h c = neutral n sys s (Stretch i t) refl (λ j. refl) c
event_counted n sys s (Hold i) h c = neutral n sys s (Hold i) refl (λ j. refl) c
event_counted n sys s (Flag i) h c = neutral n sys s (Flag i) refl (λ j. refl) c
event_counted n sys s Ask h c = neutral n sys s Ask refl (λ j. refl) c
event_counted n sys s (Ack i) h c = neutral n sys s (Ack i) refl (λ j. refl) c
event_counted n sys s (Nack i) h c = neutral n sys s (Nack i) refl (λ j. refl) c
event_counted n sys s (Begin e) h c = neutral n sys s (Begin e) refl (λ j. refl) c
event_counted n sys s (Mark i) h c = neutral n sys s (Mark i) refl (λ j. refl) c
event_counted n sys s (Seal e) h c = neutral n sys s (Seal e) refl (λ j. refl) c
event_counted n sys s (Kept e) h c = neutral n sys s (Kept e) refl (λ j. refl) c
event_counted n sys s End h c = neutral n sys s End refl (λ j. refl) c
event_counted n sys s (Stop cause) h c = neutral n sys s (Stop cause) refl (λ j. refl) c

pub counted_here : (n : ℕ) (s : State) → AreCounted n s → AreCounted (worker_count s) s
counted_here n s c = subst (λ m. AreCounted m s) (sym c.count) c

-- one event, where the rest runs
pub event_runs : (sys : System) (n : ℕ) (s : State) (e : Event) (rest : List BaseEvent) (ws : BaseState) → AreCounted n s → IsTrue (row_admits sys s e) → Runs sys (workers_after sys s e) rest ws →
    Runs sys s.workers (base_event n s.past e ++ rest) ws
event_runs sys n s (Take i k) rest ws c h r =
    let E : ℕ → BaseEvent = λ m. BaseTake i (gives_of_each (numbers_below m) s.past) in
    let A : ℕ → Type 0 = λ m. IsTrue (is_allowed s.workers (E m)) in
    let R : ℕ → Type 0 = λ m. Runs sys (base_after sys s.workers (E m)) rest ws in
    (subst A c.count (take_allowed sys s i k (counted_here n s c) h), subst R c.count r)
event_runs sys n s (Give i) rest ws c h r = (give_allowed sys s i h, r)
event_runs sys n s (Stretch i t) rest ws c h r = r
event_runs sys n s (Hold i) rest ws c h r = r
event_runs sys n s (Flag i) rest ws c h r = r
event_runs sys n s Ask rest ws c h r = r
event_runs sys n s (Ack i) rest ws c h r = r
event_runs sys n s (Nack i) rest ws c h r = r
event_runs sys n s (Begin e) rest ws c h r = r
event_runs sys n s (Mark i) rest ws c h r = r
event_runs sys n s (Seal e) rest ws c h r = r
event_runs sys n s (Kept e) rest ws c h r = r
event_runs sys n s End rest ws c h r = r
event_runs sys n s (Stop cause) rest ws c h r = r

pub runs_from : (sys : System) (n : ℕ) (journal : List Event) (s : State) → AreCounted n s → IsTrue (are_admitted sys s journal) →
    Runs sys s.workers (base_events_where (λ e past. true) n s.past journal) (state_after_all sys s journal).workers
runs_from sys n [] s c h = refl
runs_from sys n (e ∷ journal) s c h =
    let both = and_parts (is_admitted sys s e) _ h in
    let row = (and_parts _ (row_admits sys s e) both.0).1 in
    event_runs sys n s e (base_events_where (λ e past. true) n (e ∷ s.past) journal) (state_after_all sys (state_after sys s e) journal).workers c row
    (runs_from sys n journal (state_after sys s e) (event_counted n sys s e row c) both.1)

pub start_counted : (start : SnapshotParts) → AreCounted (length start.parts) (start_state start)
start_counted start =
    record {
      count = length-map start.parts (worker_of (length start.parts));
      gives = λ j h. ap (λ (w : Worker). w.gives) (at j h);
      mail = λ i h. subst (IsCounted (length start.parts) []) (sym (at i h))
          (record { senders = length-replicate (length start.parts) []; numbers = λ j k. subst (AllByRecursion (λ (b : Batch). b.number ≤ gives_of j [])) (sym (no_mail (length start.parts) j)) tt });
    }
  where
    at : (j : ℕ) → j < length start.parts → worker_at (base_state_of start) j ≡ worker_of (length start.parts) (slice_index_or start.parts j no_part)
    at j h = get_or-map (worker_of (length start.parts)) start.parts j no_part no_worker h

pub journal_runs : JournalRuns
journal_runs sys start journal legal = runs_from sys (length start.parts) journal (start_state start) (start_counted start) legal
