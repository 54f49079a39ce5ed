-- What is recorded of a worker is its part in the cut: when it is marked, when late mail comes, and when all are marked.
use Rattle.std.proofs.Common.{◌≡◌, ℕ, zero, suc, ◌+◌, ◌<◌, ◌≤◌, Bool, true, false, not, ◌&&◌, nat_lt, cond, refl, sym, ◌∙◌, ap, subst, arith, List, [], ◌∷◌, ◌++◌, length, map, filter, flat_map, slice_index_or, slice_set, append_assoc}
use Rattle.std.specs.List.{AllByRecursion, range_with_len}
use Rattle.std.proofs.lemmas.Bool.{and_from, and_left, and_right, lt-ltb, le-ltb, not_from_false, not_from_true}
use Rattle.value_order.specs.declared.order.Order.{Order}
use Rattle.value_order.specs.Order.{meet_all}
use Rattle.value_order.specs.declared.TheConstants.{NOTHING}
use Rattle.graph_core.specs.Fragments.{Piece, piece_at}
use Rattle.token_cut.specs.Parts.{PartValues}
use Rattle.base_machine.specs.Machine.{System, BaseState, Worker, Batch, Post, Standing, worker_at, after_receiving, posts_in, values_for, met_posts, pending_posts, phase_of, part_of, parts_from}
use Rattle.base_machine.proofs.Posts.{all_append, all_left, all_right, of_added, added_old, added_new, IsPostedAbove, all_values, values_all}
use Rattle.base_machine.proofs.Meets.{meet_all-lower, meet_all-greatest, meet_all-same}
use Rattle.base_machine.proofs.Growing.{queue, IsGrown, IsNumbered}
use Rattle.legal_journal.specs.Past.{is_tagged, is_marked, recording_is_open, gives_before_mark}
use Rattle.legal_journal.specs.Legal.{State, worker_count, no_part, mail_with, untagged_from, part_at_mark}

-- ---- late mail

mail_with-map : (o : Order) (posts : List Post) (f : ℕ → ℕ) (a m : ℕ) → mail_with o a posts (map f (range_with_len a m)) ≡ map (λ q. meet_all o (f q) (values_for q posts)) (range_with_len a m)
mail_with-map o posts f a zero = refl
mail_with-map o posts f a (suc m) = ap (λ l. meet_all o (f a) (values_for a posts) ∷ l) (mail_with-map o posts f (a + 1) m)

map-same : (f g : ℕ → ℕ) (xs : List ℕ) → ((q : ℕ) → f q ≡ g q) → map f xs ≡ map g xs
map-same f g [] h = refl
map-same f g (x ∷ xs) h = let e = h x in let k = map-same f g xs h in λ i. e i ∷ k i

pub mail_with-none : (o : Order) (a : ℕ) (xs : List ℕ) → mail_with o a [] xs ≡ xs
mail_with-none o a [] = refl
mail_with-none o a (x ∷ xs) = ap (λ l. x ∷ l) (mail_with-none o (a + 1) xs)

-- a batch lowers what waits as its posts do
more_met : (o : Order) (q j number : ℕ) (start posts : List Post) (mail : List (List Batch)) → j < length mail →
    meet_all o (meet_all o NOTHING (values_for q (start ++ flat_map posts_in mail))) (values_for q posts)
    ≡ meet_all o NOTHING (values_for q (start ++ flat_map posts_in (slice_set mail j (slice_index_or mail j [] ++ record { number = number; posts = posts } ∷ []))))
more_met o q j number start posts mail h =
    let pend = start ++ flat_map posts_in mail in
    let mail' = slice_set mail j (slice_index_or mail j [] ++ record { number = number; posts = posts } ∷ []) in
    let pend' = start ++ flat_map posts_in mail' in
    meet_all-same o (meet_all o NOTHING (values_for q pend)) (values_for q posts) NOTHING (values_for q pend')
    (λ c k.
    let Q = IsPostedAbove o q c in
    let low = meet_all-lower o c NOTHING (values_for q pend) k.0 in
    let old = values_all o q c pend low.1 in
    let new = values_all o q c posts k.1 in
    (low.0, all_values o q c pend' (all_append Q start (flat_map posts_in mail') (all_left Q start (flat_map posts_in mail) old) (of_added Q mail j number posts (all_right Q start (flat_map posts_in mail) old) new))))
    (λ c k.
    let Q = IsPostedAbove o q c in
    let all = values_all o q c pend' k.1 in
    let tail = all_right Q start (flat_map posts_in mail') all in
    let old = all_append Q start (flat_map posts_in mail) (all_left Q start (flat_map posts_in mail') all) (added_old Q mail j number posts h tail) in
    (meet_all-greatest o c NOTHING (values_for q pend) (k.0, all_values o q c pend old), all_values o q c posts (added_new Q mail j number posts h tail)))

pub part_received : (sys : System) (piece : Piece) (j number : ℕ) (posts : List Post) (w : Worker) → j < length w.mail →
    record (part_of sys piece w) { mail = mail_with sys.equations.order 0 posts (part_of sys piece w).mail } ≡ part_of sys piece (after_receiving j number posts w)
part_received sys piece j number [] w h = ap (λ l. record (part_of sys piece w) { mail = l }) (mail_with-none sys.equations.order 0 (part_of sys piece w).mail)
part_received sys piece j number (p ∷ posts) w h =
    let o = sys.equations.order in
    let n = length piece.mirrors in
    let met = λ (q : ℕ). meet_all o NOTHING (values_for q (pending_posts w)) in
    let mail' = slice_set w.mail j (slice_index_or w.mail j [] ++ record { number = number; posts = p ∷ posts } ∷ []) in
    ap (λ l. record (part_of sys piece w) { mail = l })
    (mail_with-map o (p ∷ posts) met 0 n
    ∙ map-same (λ q. meet_all o (met q) (values_for q (p ∷ posts))) (λ q. meet_all o NOTHING (values_for q (w.start_posts ++ flat_map posts_in mail'))) (range_with_len 0 n) (λ q. more_met o q j number w.start_posts (p ∷ posts) w.mail h))

-- ---- a Mark

pub posts_append : (xs ys : List Batch) → posts_in (xs ++ ys) ≡ posts_in xs ++ posts_in ys
posts_append [] ys = refl
posts_append (x ∷ xs) ys = ap (λ l. x.posts ++ l) (posts_append xs ys) ∙ sym (append_assoc x.posts (posts_in xs) (posts_in ys))

flat_queues : (f : ℕ → List Batch) (a : ℕ) (mail : List (List Batch)) → ((j : ℕ) → j < length mail → f (a + j) ≡ slice_index_or mail j []) → posts_in (flat_map f (range_with_len a (length mail))) ≡ flat_map posts_in mail
flat_queues f a [] h = refl
flat_queues f a (bs ∷ mail) h =
    let z : a + 0 ≡ a = omega arith in
    let here : f a ≡ bs = ap f (sym z) ∙ h 0 (omega arith) in
    let again = flat_queues f (a + 1) mail (λ j l. let e : a + 1 + j ≡ a + suc j = omega arith in ap f e ∙ h (suc j) (omega (arith, l))) in
    posts_append (f a) (flat_map f (range_with_len (a + 1) (length mail))) ∙ (λ i. posts_in (here i) ++ again i)

filter_all : (t : Batch → Bool) (xs ys : List Batch) → AllByRecursion (λ (b : Batch). t b ≡ true) xs → AllByRecursion (λ (b : Batch). t b ≡ false) ys → filter t (xs ++ ys) ≡ xs
filter_all t [] [] h k = refl
filter_all t [] (y ∷ ys) h k = ap (λ b. cond b (y ∷ filter t ys) (filter t ys)) k.0 ∙ filter_all t [] ys tt k.1
filter_all t (x ∷ xs) ys h k = ap (λ b. cond b (x ∷ filter t (xs ++ ys)) (filter t (xs ++ ys))) h.0 ∙ ap (λ l. x ∷ l) (filter_all t xs ys h.1 k)

each_test : (P : Batch → Type 0) (t : Batch → Bool) (v : Bool) → ((b : Batch) → P b → t b ≡ v) → (xs : List Batch) → AllByRecursion P xs → AllByRecursion (λ (b : Batch). t b ≡ v) xs
each_test P t v f [] h = tt
each_test P t v f (x ∷ xs) h = (f x h.0, each_test P t v f xs h.1)

nothing_above : (g : ℕ) (xs : List Batch) → AllByRecursion (λ (b : Batch). b.number ≤ g) xs → AllByRecursion (λ (b : Batch). g < b.number) xs → xs ≡ []
nothing_above g [] h k = refl
nothing_above g (x ∷ xs) h k = let a = h.0 in let b = k.0 in absurd (omega (arith, a, b))

phase_same : (w w' : Worker) → w'.standing ≡ w.standing → phase_of w' ≡ phase_of w
phase_same w w' e = ap (λ (x : Standing). phase_of (record w { standing = x })) e

-- what is recorded at a Mark is the worker's part in the cut
pub part_marked : (sys : System) (n : ℕ) (S : BaseState) (s : State) (i : ℕ) → worker_count s ≡ n → i < n → IsNumbered n S → IsGrown n S (worker_at S i) (worker_at s.workers i) → recording_is_open s.past ≡ true →
    ((j : ℕ) → j < n → is_marked j s.past ≡ true → gives_before_mark j s.past ≡ (worker_at S j).gives) →
    ((j : ℕ) → j < n → is_marked j s.past ≡ false → AllByRecursion (λ (b : Batch). b.number ≤ (worker_at S j).gives) (queue (worker_at s.workers i) j)) →
    part_at_mark sys s i ≡ part_of sys (piece_at sys.pieces i) (worker_at S i)
part_marked sys n S s i c h q g o before others =
    let u = worker_at S i in
    let w = worker_at s.workers i in
    let piece = piece_at sys.pieces i in
    let len = q.senders i h in
    let R : ℕ → Type 0 = λ m. posts_in (flat_map (untagged_from s i) (range_with_len 0 m)) ≡ flat_map posts_in u.mail in
    let mail : R (worker_count s) =
    subst R (len ∙ sym c) (flat_queues (untagged_from s i) 0 u.mail (λ j l. let e : 0 + j ≡ j = omega arith in ap (untagged_from s i) e ∙ each j (omega (arith, l, len)))) in
    let phase = phase_same u w g.standing in
    λ t. record {
      phase = phase t;
      values = g.values t;
      mail = met_posts sys.equations.order (length piece.mirrors) (g.start t ++ mail t);
    }
  where
    each : (j : ℕ) → j < n → untagged_from s i j ≡ queue (worker_at S i) j
    each j l = go (is_marked j s.past) refl
      where
        test : Batch → Bool
        test b = not (is_tagged j b.number s.past)

        go : (b : Bool) → is_marked j s.past ≡ b → filter (λ b. not (is_tagged j b.number s.past)) (queue (worker_at s.workers i) j) ≡ queue (worker_at S i) j
        go true m =
            let k = g.queues j l in
            let e = before j l m in
            let t = λ (b : Batch). not (is_tagged j b.number s.past) in
            ap (filter t) k.1
            ∙ filter_all t (queue (worker_at S i) j) k.0
            (each_test (λ (b : Batch). b.number ≤ (worker_at S j).gives) t true
            (λ b le. not_from_false (is_tagged j b.number s.past) (and_right (recording_is_open s.past && is_marked j s.past) (nat_lt (gives_before_mark j s.past) b.number) (le-ltb (gives_before_mark j s.past) b.number (omega (arith, le, e)))))
            (queue (worker_at S i) j) (q.numbers i j h l))
            (each_test (λ (b : Batch). (worker_at S j).gives < b.number) t false
            (λ b lt. not_from_true (is_tagged j b.number s.past)
            (and_from (recording_is_open s.past && is_marked j s.past) (nat_lt (gives_before_mark j s.past) b.number) (and_from (recording_is_open s.past) (is_marked j s.past) o m) (lt-ltb (gives_before_mark j s.past) b.number (omega (arith, lt, e)))))
            k.0 k.2)
        go false m =
            let k = g.queues j l in
            let t = λ (b : Batch). not (is_tagged j b.number s.past) in
            let P : Batch → Type 0 = λ b. b.number ≤ (worker_at S j).gives in
            let none : k.0 ≡ [] = nothing_above (worker_at S j).gives k.0 (all_right P (queue (worker_at S i) j) k.0 (subst (AllByRecursion P) k.1 (others j l m))) k.2 in
            ap (filter t) k.1
            ∙ (ap (λ news. filter t (queue (worker_at S i) j ++ news)) none
            ∙ filter_all t (queue (worker_at S i) j) []
            (each_test P t true
            (λ b le. not_from_false (is_tagged j b.number s.past) (and_left (recording_is_open s.past && is_marked j s.past) (nat_lt (gives_before_mark j s.past) b.number) (and_right (recording_is_open s.past) (is_marked j s.past) m)))
            (queue (worker_at S i) j) (q.numbers i j h l))
            tt)

-- ---- a Seal

pub same_parts : (sys : System) (a : ℕ) (parts : List PartValues) (ws : BaseState) → length parts ≡ length ws → ((k : ℕ) → k < length ws → slice_index_or parts k no_part ≡ part_of sys (piece_at sys.pieces (a + k)) (worker_at ws k)) →
    parts ≡ parts_from sys a ws
same_parts sys a [] [] e h = refl
same_parts sys a [] (w ∷ ws) e h = absurd (omega (arith, e))
same_parts sys a (p ∷ parts) [] e h = absurd (omega (arith, e))
same_parts sys a (p ∷ parts) (w ∷ ws) e h =
    let z : a + 0 ≡ a = omega arith in
    let here : p ≡ part_of sys (piece_at sys.pieces a) w = h 0 (omega arith) ∙ ap (λ q. part_of sys (piece_at sys.pieces q) w) z in
    let again = same_parts sys (a + 1) parts ws (omega (arith, e)) (λ k l. let q : a + suc k ≡ a + 1 + k = omega arith in h (suc k) (omega (arith, l)) ∙ ap (λ x. part_of sys (piece_at sys.pieces x) (worker_at ws k)) q) in
    λ i. here i ∷ again i
