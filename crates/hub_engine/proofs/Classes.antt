-- Mail by class: the batches with a token, and the others.
use Rattle.std.proofs.Common.{◌≡◌, ℕ, suc, ◌+◌, ◌<◌, Bool, true, false, not, cond, if◌then◌else◌, refl, ◌∙◌, ap, subst, arith, List, [], ◌∷◌, ◌++◌, length, length-append, filter, flat_map, slice_index_or, sum_by}
use Rattle.std.specs.List.{AllByRecursion, range_with_len}
use Rattle.std.proofs.lemmas.List.Sums.{sum_by-cons}
use Rattle.graph_core.specs.Fragments.{numbers_below, piece_at}
use Rattle.grape_event.specs.declared.event.Event.{Event}
use Rattle.message_buffer.specs.BufferValues.{BufferValues}
use Rattle.message_buffer.specs.Posted.{same_class}
use Rattle.message_buffer.specs.Buffers.{batches_in}
use Rattle.base_machine.specs.Machine.{System, BaseState, Batch, worker_at, batches_waiting, is_empty, met_posts, posts_in}
use Rattle.legal_journal.specs.Past.{is_tagged}
use Rattle.legal_journal.specs.Legal.{State, worker_count, state_after, workers_after}
use Rattle.legal_journal.proofs.Journals.{AreCounted}
use Rattle.hub_engine.specs.Desks.{buffer_of, waiting_in_class}

-- both classes are all
pub both_classes : (test : Batch → Bool) (bs : List Batch) → length (filter (λ b. not (test b)) bs) + length (filter test bs) ≡ length bs
both_classes test [] = refl
both_classes test (b ∷ bs) = go (test b) (both_classes test bs)
  where
    go : (c : Bool) → length (filter (λ b. not (test b)) bs) + length (filter test bs) ≡ length bs →
        length (cond (not c) (b ∷ filter (λ b. not (test b)) bs) (filter (λ b. not (test b)) bs)) + length (cond c (b ∷ filter test bs) (filter test bs)) ≡ suc (length bs)
    go true e = omega (arith, e)
    go false e = omega (arith, e)

-- over the senders from the a-th on
classes_from : (test : ℕ → Batch → Bool) (mail : List (List Batch)) (a : ℕ) (all : List (List Batch)) → ((k : ℕ) → slice_index_or all (a + k) [] ≡ slice_index_or mail k []) →
    length (flat_map (λ j. filter (λ b. not (test j b)) (slice_index_or all j [])) (range_with_len a (length mail))) + length (flat_map (λ j. filter (test j) (slice_index_or all j [])) (range_with_len a (length mail)))
    ≡ sum_by {X = List Batch} (λ bs. length bs) mail
classes_from test [] a all h = refl
classes_from test (bs ∷ mail) a all h =
    let here : slice_index_or all a [] ≡ bs = (let z : a ≡ a + 0 = omega arith in ap (λ k. slice_index_or all k []) z ∙ h 0) in
    let rest = classes_from test mail (a + 1) all (λ k. let z : a + 1 + k ≡ a + suc k = omega arith in ap (λ n. slice_index_or all n []) z ∙ h (suc k)) in
    let q = slice_index_or all a [] in
    let one = both_classes (test a) q in
    let long = ap {B = ℕ} (λ (l : List Batch). length l) here in
    let x = length-append (filter (λ b. not (test a b)) q) (flat_map (λ j. filter (λ b. not (test j b)) (slice_index_or all j [])) (range_with_len (a + 1) (length mail))) in
    let y = length-append (filter (test a) q) (flat_map (λ j. filter (test j) (slice_index_or all j [])) (range_with_len (a + 1) (length mail))) in
    let z = sum_by-cons {X = List Batch} (λ l. length l) bs mail in
    omega (arith, rest, one, long, x, y, z)

-- as many batches in both classes as wait
pub batches_by_class : (sys : System) (s : State) (i : ℕ) → AreCounted (worker_count s) s → i < worker_count s → batches_in (buffer_of sys s i) ≡ batches_waiting (worker_at s.workers i)
batches_by_class sys s i counted inside =
    let w = worker_at s.workers i in
    let n : length w.mail ≡ worker_count s = (counted.mail i inside).senders in
    let all = classes_from (λ j b. is_tagged j b.number s.past) w.mail 0 w.mail (λ k. ap (λ m. slice_index_or w.mail m []) (omega arith)) in
    let start : ℕ = if is_empty w.start_posts then 0 else 1 in
    let same : length (waiting_in_class false s i) + length (waiting_in_class true s i) ≡ sum_by {X = List Batch} (λ bs. length bs) w.mail =
    subst (λ m. length (flat_map (λ j. filter (λ b. not (is_tagged j b.number s.past)) (slice_index_or w.mail j [])) (numbers_below m)) + length (flat_map (λ j. filter (λ b. is_tagged j b.number s.past) (slice_index_or w.mail j [])) (numbers_below m)) ≡ sum_by {X = List Batch} (λ bs. length bs) w.mail) n all in
    omega (arith, same)

-- ---- batches that keep their class

filter_same : (f g : Batch → Bool) (bs : List Batch) → AllByRecursion (λ b. f b ≡ g b) bs → filter f bs ≡ filter g bs
filter_same f g [] h = refl
filter_same f g (b ∷ bs) h = ap (λ c. cond c (b ∷ filter f bs) (filter f bs)) h.0 ∙ ap (λ l. cond (g b) (b ∷ l) l) (filter_same f g bs h.1)

flat_same : (f g : ℕ → List Batch) (is : List ℕ) → ((j : ℕ) → f j ≡ g j) → flat_map f is ≡ flat_map g is
flat_same f g [] h = refl
flat_same f g (i ∷ is) h = ap (λ l. l ++ flat_map f is) (h i) ∙ ap (λ l. g i ++ l) (flat_same f g is h)

all_of_class : (c : Bool) (f g : Batch → Bool) (bs : List Batch) → AllByRecursion (λ b. f b ≡ g b) bs → AllByRecursion (λ b. same_class c (f b) ≡ same_class c (g b)) bs
all_of_class c f g [] h = tt
all_of_class c f g (b ∷ bs) h = (ap (same_class c) h.0, all_of_class c f g bs h.1)

-- the batches that wait for worker i keep their class from one past to another
abbrev pub KeepClass : State → List Event → ℕ → Type 0
KeepClass s past i = (j : ℕ) → AllByRecursion (λ (b : Batch). is_tagged j b.number past ≡ is_tagged j b.number s.past) (slice_index_or (worker_at s.workers i).mail j [])

pub class_kept : (c : Bool) (s : State) (past : List Event) (i : ℕ) → KeepClass s past i →
    flat_map (λ j. filter (λ (b : Batch). same_class c (is_tagged j b.number past)) (slice_index_or (worker_at s.workers i).mail j [])) (numbers_below (length s.workers)) ≡ waiting_in_class c s i
class_kept c s past i h =
    flat_same (λ j. filter (λ (b : Batch). same_class c (is_tagged j b.number past)) (slice_index_or (worker_at s.workers i).mail j [])) (λ j. filter (λ (b : Batch). same_class c (is_tagged j b.number s.past)) (slice_index_or (worker_at s.workers i).mail j []))
    (numbers_below (length s.workers))
    (λ j. filter_same (λ b. same_class c (is_tagged j b.number past)) (λ b. same_class c (is_tagged j b.number s.past)) (slice_index_or (worker_at s.workers i).mail j [])
    (all_of_class c (λ b. is_tagged j b.number past) (λ b. is_tagged j b.number s.past) (slice_index_or (worker_at s.workers i).mail j []) (h j)))

-- so its buffer stays, after an event that changes no worker
pub buffer_kept : (sys : System) (s : State) (e : Event) (i : ℕ) → workers_after sys s e ≡ s.workers → KeepClass s (e ∷ s.past) i → buffer_of sys (state_after sys s e) i ≡ buffer_of sys s i
buffer_kept sys s e i same h =
    let o = sys.equations.order in
    let m = length (piece_at sys.pieces i).mirrors in
    let begun = (worker_at s.workers i).start_posts in
    let P : BaseState → BufferValues = λ ws.
    record {
      order = o;
      plain = met_posts o m ((worker_at ws i).start_posts ++ posts_in (flat_map (λ j. filter (λ (b : Batch). same_class false (is_tagged j b.number (e ∷ s.past))) (slice_index_or (worker_at ws i).mail j [])) (numbers_below (length ws))));
      tagged = met_posts o m (posts_in (flat_map (λ j. filter (λ (b : Batch). same_class true (is_tagged j b.number (e ∷ s.past))) (slice_index_or (worker_at ws i).mail j [])) (numbers_below (length ws))));
      plain_batches = (if is_empty (worker_at ws i).start_posts then 0 else 1) + length (flat_map (λ j. filter (λ (b : Batch). same_class false (is_tagged j b.number (e ∷ s.past))) (slice_index_or (worker_at ws i).mail j [])) (numbers_below (length ws)));
      tagged_batches = length (flat_map (λ j. filter (λ (b : Batch). same_class true (is_tagged j b.number (e ∷ s.past))) (slice_index_or (worker_at ws i).mail j [])) (numbers_below (length ws)));
    } in
    let plain = class_kept false s (e ∷ s.past) i h in
    let tagged = class_kept true s (e ∷ s.past) i h in
    ap P same
    ∙ λ t. record {
      order = o;
      plain = met_posts o m (begun ++ posts_in (plain t));
      tagged = met_posts o m (posts_in (tagged t));
      plain_batches = (if is_empty begun then 0 else 1) + length (plain t);
      tagged_batches = length (tagged t);
    }
