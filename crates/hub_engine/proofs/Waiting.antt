-- How many batches wait, and how many workers are out, after a legal journal.
use Rattle.std.proofs.Common.{◌≡◌, ◌≢◌, ℕ, zero, suc, ◌+◌, ◌<◌, ◌≤◌, Bool, true, false, ◌==◌, nat_lt, cond, if◌then◌else◌, refl, sym, ◌∙◌, ap, arith, List, [], ◌∷◌, ◌++◌, length, length-append, filter, slice_index_or, slice_set, replicate, count_by, sum_by, Some}
use Rattle.std.proofs.lemmas.Bool.{eq-eqb, ne_eqb}
use Rattle.std.proofs.lemmas.List.{length-map, get_or-map}
use Rattle.std.proofs.lemmas.List.Sums.{sum_by-cons}
use Rattle.grape_event.specs.declared.event.Event.{Event}
use Rattle.grape_event.specs.declared.event.Event.TheVariants.{Take, Give, Stretch, Hold, Flag, Ask, Ack, Nack, Begin, Mark, Seal, Kept, End, Stop}
use Rattle.grape_event.specs.Events.{is_take}
use Rattle.graph_core.specs.Fragments.{piece_at, numbers_below}
use Rattle.token_cut.specs.Parts.{PartValues, SnapshotParts}
use Rattle.base_machine.specs.Machine.{System, BaseState, BaseEvent, BaseTake, BaseGive, Worker, Post, Batch, no_worker, worker_at, worker_of, is_empty, is_running, posts_from, batches_waiting, left_batches, after_taking, after_giving, after_receiving, each_worker_from, sent_to, base_after}
use Rattle.base_machine.proofs.Swapping.{made_of, after-length, after-at}
use Rattle.legal_journal.specs.Past.{gives_of_each, lane_of}
use Rattle.legal_journal.specs.Legal.{State, start_state, worker_count, no_part, state_after, workers_after}
use Rattle.hub_engine.specs.States.{works_out}

-- ---- batches

filter-shorter : (test : Batch → Bool) (bs : List Batch) → length (filter test bs) ≤ length bs
filter-shorter test [] = omega arith
filter-shorter test (b ∷ bs) = go (test b) (filter-shorter test bs)
  where
    go : (t : Bool) → length (filter test bs) ≤ length bs → length (cond t (b ∷ filter test bs) (filter test bs)) ≤ suc (length bs)
    go true h = omega (arith, h)
    go false h = omega (arith, h)

left-fewer : (upto : List ℕ) (mail : List (List Batch)) → sum_by {X = List Batch} (λ bs. length bs) (left_batches upto mail) ≤ sum_by {X = List Batch} (λ bs. length bs) mail
left-fewer [] mail = omega arith
left-fewer (u ∷ upto) [] = omega arith
left-fewer (u ∷ upto) (bs ∷ mail) =
    let a = sum_by-cons {X = List Batch} (λ l. length l) (filter (λ b. nat_lt u b.number) bs) (left_batches upto mail) in
    let b = sum_by-cons {X = List Batch} (λ l. length l) bs mail in
    let c = filter-shorter (λ b. nat_lt u b.number) bs in
    let d = left-fewer upto mail in
    omega (arith, a, b, c, d)

set-more : (mail : List (List Batch)) (j : ℕ) (b : Batch) → sum_by {X = List Batch} (λ bs. length bs) (slice_set mail j (slice_index_or mail j [] ++ b ∷ [])) ≤ sum_by {X = List Batch} (λ bs. length bs) mail + 1
set-more [] j b = omega arith
set-more (bs ∷ mail) zero b =
    let a = sum_by-cons {X = List Batch} (λ l. length l) (bs ++ b ∷ []) mail in
    let c = sum_by-cons {X = List Batch} (λ l. length l) bs mail in
    let d = length-append bs (b ∷ []) in
    omega (arith, a, c, d)
set-more (bs ∷ mail) (suc j) b =
    let a = sum_by-cons {X = List Batch} (λ l. length l) bs (slice_set mail j (slice_index_or mail j [] ++ b ∷ [])) in
    let c = sum_by-cons {X = List Batch} (λ l. length l) bs mail in
    let d = set-more mail j b in
    omega (arith, a, c, d)

taken-waits : (sys : System) (ws : BaseState) (i : ℕ) (upto : List ℕ) (k : ℕ) (w : Worker) → batches_waiting (made_of sys ws (BaseTake i upto) k w) ≤ batches_waiting w
taken-waits sys ws i upto k w = go (k == i)
  where
    go : (t : Bool) → batches_waiting (if t then after_taking sys (piece_at sys.pieces i) upto w else w) ≤ batches_waiting w
    go true = let a = left-fewer upto w.mail in omega (arith, a)
    go false = omega arith

given-waits : (sys : System) (ws : BaseState) (i k : ℕ) (w : Worker) → batches_waiting (made_of sys ws (BaseGive i) k w) ≤ batches_waiting w + 1
given-waits sys ws i k w = go (k == i) (sent_to sys (piece_at sys.pieces i) (worker_at ws i) k)
  where
    go : (t : Bool) (posts : List Post) → batches_waiting (if t then after_giving sys (piece_at sys.pieces i) w else after_receiving i ((worker_at ws i).gives + 1) posts w) ≤ batches_waiting w + 1
    go true posts = omega arith
    go false [] = omega arith
    go false (p ∷ posts) = let a = set-more w.mail i (record { number = (worker_at ws i).gives + 1; posts = p ∷ posts }) in omega (arith, a)

-- For a worker wait at most a batch of the start and one for each event that isn't a Take.
abbrev pub FewWait : State → Type 0
FewWait s = (k : ℕ) → k < worker_count s → batches_waiting (worker_at s.workers k) + count_by is_take s.past ≤ length s.past + 1

takes_more : (e : Event) (past : List Event) → count_by is_take (e ∷ past) ≡ cond (is_take e) 1 0 + count_by is_take past
takes_more e past = sum_by-cons (λ x. cond (is_take x) 1 0) e past

few-base : (sys : System) (s : State) (e : Event) (b : BaseEvent) → workers_after sys s e ≡ base_after sys s.workers b → ((k : ℕ) (w : Worker) → batches_waiting (made_of sys s.workers b k w) + cond (is_take e) 1 0 ≤ batches_waiting w + 1) →
    FewWait s → FewWait (state_after sys s e)
few-base sys s e b same more few k h =
    let n = ap (λ (ws : BaseState). length ws) same ∙ after-length sys s.workers b in
    let l : k < worker_count s = omega (arith, h, n) in
    let at = ap (λ (ws : BaseState). batches_waiting (worker_at ws k)) same ∙ ap (λ (w : Worker). batches_waiting w) (after-at sys s.workers b k l) in
    let one = more k (worker_at s.workers k) in
    let takes = takes_more e s.past in
    let old = few k l in
    omega (arith, at, one, takes, old)

few-same : (sys : System) (s : State) (e : Event) → workers_after sys s e ≡ s.workers → is_take e ≡ false → FewWait s → FewWait (state_after sys s e)
few-same sys s e same other few k h =
    let n = ap (λ (ws : BaseState). length ws) same in
    let at = ap (λ (ws : BaseState). batches_waiting (worker_at ws k)) same in
    let takes = takes_more e s.past in
    let none = ap {B = ℕ} (λ t. cond t 1 0) other in
    let old = few k (omega (arith, h, n)) in
    omega (arith, at, takes, none, old)

pub few_kept : (sys : System) (s : State) (e : Event) → FewWait s → FewWait (state_after sys s e)
few_kept sys s (Take i k) few =
    let upto = gives_of_each (numbers_below (worker_count s)) s.past in
    few-base sys s (Take i k) (BaseTake i upto) refl (λ q w. let a = taken-waits sys s.workers i upto q w in omega (arith, a)) few
few_kept sys s (Give i) few = few-base sys s (Give i) (BaseGive i) refl (λ q w. let a = given-waits sys s.workers i q w in omega (arith, a)) few
few_kept sys s (Stretch i t) few = few-same sys s (Stretch i t) refl refl few
few_kept sys s (Hold i) few = few-same sys s (Hold i) refl refl few
few_kept sys s (Flag i) few = few-same sys s (Flag i) refl refl few
few_kept sys s Ask few = few-same sys s Ask refl refl few
few_kept sys s (Ack i) few = few-same sys s (Ack i) refl refl few
few_kept sys s (Nack i) few = few-same sys s (Nack i) refl refl few
few_kept sys s (Begin e) few = few-same sys s (Begin e) refl refl few
few_kept sys s (Mark i) few = few-same sys s (Mark i) refl refl few
few_kept sys s (Seal e) few = few-same sys s (Seal e) refl refl few
few_kept sys s (Kept e) few = few-same sys s (Kept e) refl refl few
few_kept sys s End few = few-same sys s End refl refl few
few_kept sys s (Stop c) few = few-same sys s (Stop c) refl refl few

-- ---- at the beginning

empty_queues : (n : ℕ) → sum_by {X = List Batch} (λ bs. length bs) (replicate n []) ≡ 0
empty_queues zero = refl
empty_queues (suc n) = let a = sum_by-cons {X = List Batch} (λ bs. length bs) [] (replicate n []) in let b = empty_queues n in omega (arith, a, b)

start_waits : (n : ℕ) (part : PartValues) → batches_waiting (worker_of n part) ≤ 1
start_waits n part = go (is_empty (posts_from 0 part.mail)) (empty_queues n)
  where
    go : (b : Bool) → sum_by {X = List Batch} (λ bs. length bs) (replicate n []) ≡ 0 → (if b then 0 else 1) + sum_by {X = List Batch} (λ bs. length bs) (replicate n []) ≤ 1
    go true e = omega (arith, e)
    go false e = omega (arith, e)

pub few_begin : (start : SnapshotParts) → FewWait (start_state start)
few_begin start k h =
    let n = length start.parts in
    let parts = length-map start.parts (worker_of n) in
    let at = get_or-map (worker_of n) start.parts k no_part no_worker (omega (arith, h, parts)) in
    let count = ap (λ (w : Worker). batches_waiting w) at in
    let one = start_waits n (slice_index_or start.parts k no_part) in
    omega (arith, count, one)

-- ---- a worker that is out was taken

took_before : (e : Event) (past : List Event) → 1 ≤ count_by is_take past → 1 ≤ count_by is_take (e ∷ past)
took_before e past h = let a = takes_more e past in omega (arith, a, h)

pub some_take : (i lane : ℕ) (past : List Event) → lane_of i past ≡ Some lane → 1 ≤ count_by is_take past
some_take i lane [] h = cc
some_take i lane (Take j k ∷ past) h = let a = takes_more (Take j k) past in omega (arith, a)
some_take i lane (Give j ∷ past) h = took_before (Give j) past (some_take i lane past h)
some_take i lane (Stretch j t ∷ past) h = took_before (Stretch j t) past (some_take i lane past h)
some_take i lane (Hold j ∷ past) h = took_before (Hold j) past (some_take i lane past h)
some_take i lane (Flag j ∷ past) h = took_before (Flag j) past (some_take i lane past h)
some_take i lane (Ask ∷ past) h = took_before Ask past (some_take i lane past h)
some_take i lane (Ack j ∷ past) h = took_before (Ack j) past (some_take i lane past h)
some_take i lane (Nack j ∷ past) h = took_before (Nack j) past (some_take i lane past h)
some_take i lane (Begin e ∷ past) h = took_before (Begin e) past (some_take i lane past h)
some_take i lane (Mark j ∷ past) h = took_before (Mark j) past (some_take i lane past h)
some_take i lane (Seal e ∷ past) h = took_before (Seal e) past (some_take i lane past h)
some_take i lane (Kept e ∷ past) h = took_before (Kept e) past (some_take i lane past h)
some_take i lane (End ∷ past) h = took_before End past (some_take i lane past h)
some_take i lane (Stop c ∷ past) h = took_before (Stop c) past (some_take i lane past h)

-- ---- who is out

others_count : (n i : ℕ) (f : ℕ → Worker → Worker) (ws : BaseState) → ((k : ℕ) (w : Worker) → k ≢ i → is_running (f k w) ≡ is_running w) → i < n → works_out (each_worker_from n f ws) ≡ works_out ws
others_count n i f [] same h = refl
others_count n i f (w ∷ ws) same h =
    let a = sum_by-cons (λ (x : Worker). cond (is_running x) 1 0) (f n w) (each_worker_from (n + 1) f ws) in
    let b = sum_by-cons (λ (x : Worker). cond (is_running x) 1 0) w ws in
    let d : n ≢ i = λ e. absurd (omega (arith, h, e)) in
    let c = ap {B = ℕ} (λ t. cond t 1 0) (same n w d) in
    let r = others_count (n + 1) i f ws same (omega (arith, h)) in
    omega (arith, a, b, c, r)

one_rests : (n p i : ℕ) (f : ℕ → Worker → Worker) (ws : BaseState) → ((k : ℕ) (w : Worker) → k ≢ i → is_running (f k w) ≡ is_running w) → ((w : Worker) → is_running (f i w) ≡ false) →
    i ≡ n + p → p < length ws → is_running (worker_at ws p) ≡ true → works_out (each_worker_from n f ws) + 1 ≡ works_out ws
one_rests n p i f [] same rest e h runs = absurd (omega (arith, h))
one_rests n zero i f (w ∷ ws) same rest e h runs =
    let here : i ≡ n = omega (arith, e) in
    let a = sum_by-cons (λ (x : Worker). cond (is_running x) 1 0) (f n w) (each_worker_from (n + 1) f ws) in
    let b = sum_by-cons (λ (x : Worker). cond (is_running x) 1 0) w ws in
    let c = ap {B = ℕ} (λ t. cond t 1 0) (ap (λ k. is_running (f k w)) (sym here) ∙ rest w) in
    let d = ap {B = ℕ} (λ t. cond t 1 0) runs in
    let l : i < n + 1 = omega (arith, here) in
    let r = others_count (n + 1) i f ws same l in
    omega (arith, a, b, c, d, r)
one_rests n (suc p) i f (w ∷ ws) same rest e h runs =
    let a = sum_by-cons (λ (x : Worker). cond (is_running x) 1 0) (f n w) (each_worker_from (n + 1) f ws) in
    let b = sum_by-cons (λ (x : Worker). cond (is_running x) 1 0) w ws in
    let d : n ≢ i = λ k. absurd (omega (arith, e, k)) in
    let c = ap {B = ℕ} (λ t. cond t 1 0) (same n w d) in
    let there : i ≡ n + 1 + p = omega (arith, e) in
    let l : p < length ws = omega (arith, h) in
    let r = one_rests (n + 1) p i f ws same rest there l runs in
    omega (arith, a, b, c, r)

-- a Give brings one back
pub one_back : (sys : System) (ws : BaseState) (i : ℕ) → i < length ws → is_running (worker_at ws i) ≡ true → works_out (base_after sys ws (BaseGive i)) + 1 ≡ works_out ws
one_back sys ws i h runs = one_rests 0 i i f ws same rest (omega arith) h runs
  where
    f : ℕ → Worker → Worker
    f k w = if k == i then after_giving sys (piece_at sys.pieces i) w else after_receiving i ((worker_at ws i).gives + 1) (sent_to sys (piece_at sys.pieces i) (worker_at ws i) k) w

    received : (posts : List Post) (w : Worker) → is_running (after_receiving i ((worker_at ws i).gives + 1) posts w) ≡ is_running w
    received [] w = refl
    received (p ∷ posts) w = refl

    same : (k : ℕ) (w : Worker) → k ≢ i → is_running (if k == i then after_giving sys (piece_at sys.pieces i) w else after_receiving i ((worker_at ws i).gives + 1) (sent_to sys (piece_at sys.pieces i) (worker_at ws i) k) w) ≡ is_running w
    same k w n =
        ap (λ b. is_running (if b then after_giving sys (piece_at sys.pieces i) w else after_receiving i ((worker_at ws i).gives + 1) (sent_to sys (piece_at sys.pieces i) (worker_at ws i) k) w)) (ne_eqb k i n)
        ∙ received (sent_to sys (piece_at sys.pieces i) (worker_at ws i) k) w

    rest : (w : Worker) → is_running (if i == i then after_giving sys (piece_at sys.pieces i) w else after_receiving i ((worker_at ws i).gives + 1) (sent_to sys (piece_at sys.pieces i) (worker_at ws i) i) w) ≡ false
    rest w = ap (λ b. is_running (if b then after_giving sys (piece_at sys.pieces i) w else after_receiving i ((worker_at ws i).gives + 1) (sent_to sys (piece_at sys.pieces i) (worker_at ws i) i) w)) (eq-eqb i i refl)
