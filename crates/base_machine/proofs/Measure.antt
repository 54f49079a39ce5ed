-- Every Take lowers a measure, and no Give raises it.
use Rattle.std.proofs.Common.{◌≡◌, ℕ, zero, suc, ◌+◌, ◌*◌, ◌<◌, ◌≤◌, Bool, true, false, ◌&&◌, ◌||◌, ◌==◌, nat_lt, nat_le, cond, if◌then◌else◌, IsTrue, refl, sym, ◌∙◌, ap, arith, List, [], ◌∷◌, ◌++◌, length, map, filter, slice_index, slice_index_or, slice_set, length-append, sum_by}
use Rattle.std.proofs.lemmas.Bool.{eqb-true, eqb-false, ne_eqb, ltb-true, false≢true, leb-false, leb-true, lt-ltb, not-true}
use Rattle.std.proofs.lemmas.List.Sums.{sum_by-cons}
use native.Mathlib.Nat.{mul-le-mul_right}
use Rattle.value_order.specs.declared.order.Order.{Order}
use Rattle.value_order.specs.Order.{Below, height_of}
use Rattle.value_order.proofs.Orders.{height-lt, height-le}
use Rattle.graph_core.specs.declared.fragment.Route.{Route}
use Rattle.graph_core.specs.Fragments.{Piece, piece_at}
use Rattle.base_machine.specs.Machine.{System, BaseState, Standing, Fresh, Running, Rest, Worker, Batch, Post, worker_at, is_fresh, rests, is_empty, batches_waiting, taken_batches, left_batches, takes_a_batch, posts_to, after_taking, after_giving, after_receiving, each_worker_from}

-- ---- the measure

-- the heights of owned values, each as often as it has routes
abbrev pub heights : Order → List ℕ → List (List Route) → ℕ
heights o [] routes = 0
heights o (x ∷ xs) [] = 0
heights o (x ∷ xs) (r ∷ routes) = height_of o x * length r + heights o xs routes

abbrev pub weight : Order → Piece → Worker → ℕ
weight o piece w = (if is_fresh w then 1 else 0) + batches_waiting w + heights o w.values piece.routes

abbrev pub total : Order → List Piece → BaseState → ℕ
total o [] ws = 0
total o (p ∷ pieces) [] = 0
total o (p ∷ pieces) (w ∷ ws) = weight o p w + total o pieces ws

pub total-set : (o : Order) (pieces : List Piece) (ws : BaseState) (i : ℕ) (w : Worker) → i < length ws → length pieces ≡ length ws →
    total o pieces (slice_set ws i w) + weight o (piece_at pieces i) (worker_at ws i) ≡ total o pieces ws + weight o (piece_at pieces i) w
total-set o [] ws i w h e = absurd (omega (arith, h, e))
total-set o (p ∷ pieces) [] i w h e = absurd (omega (arith, h))
total-set o (p ∷ pieces) (x ∷ ws) zero w h e = omega arith
total-set o (p ∷ pieces) (x ∷ ws) (suc i) w h e = let k = total-set o pieces ws i w (omega (arith, h)) (omega (arith, e)) in omega (arith, k)

-- ---- a Take

split_count : (u : ℕ) (bs : List Batch) → length (filter (λ b. nat_le b.number u) bs) + length (filter (λ b. nat_lt u b.number) bs) ≡ length bs
split_count u [] = refl
split_count u (b ∷ bs) = go (split_count u bs) (nat_le b.number u) refl (nat_lt u b.number) refl
  where
    go : length (filter (λ b. nat_le b.number u) bs) + length (filter (λ b. nat_lt u b.number) bs) ≡ length bs → (s : Bool) → nat_le b.number u ≡ s → (t : Bool) → nat_lt u b.number ≡ t →
        length (cond s (b ∷ filter (λ b. nat_le b.number u) bs) (filter (λ b. nat_le b.number u) bs)) + length (cond t (b ∷ filter (λ b. nat_lt u b.number) bs) (filter (λ b. nat_lt u b.number) bs)) ≡ suc (length bs)
    go again true es false et = omega (arith, again)
    go again false es true et = omega (arith, again)
    go again true es true et = let a = leb-true b.number u es in let c = ltb-true u b.number et in absurd (omega (arith, a, c))
    go again false es false et = let a = leb-false b.number u es in let c = lt-ltb u b.number (omega (arith, a)) in absurd (false≢true (sym et ∙ c))

taken_count : (upto : List ℕ) (mail : List (List Batch)) → length (taken_batches upto mail) + sum_by length (left_batches upto mail) ≤ sum_by length mail
taken_count [] mail = omega arith
taken_count (u ∷ upto) [] = omega arith
taken_count (u ∷ upto) (bs ∷ mail) =
    let low = filter (λ (b : Batch). nat_le b.number u) bs in
    let high = filter (λ (b : Batch). nat_lt u b.number) bs in
    let s = split_count u bs in
    let k = taken_count upto mail in
    let a = length-append low (taken_batches upto mail) in
    let c = sum_by-cons {X = List Batch} length high (left_batches upto mail) in
    let d = sum_by-cons {X = List Batch} length bs mail in
    omega (arith, s, k, a, c, d)

not_empty : {X : Type 0} (xs : List X) → is_empty xs ≡ false → 0 < length xs
not_empty [] h = absurd (false≢true (sym h))
not_empty (x ∷ xs) h = omega arith

take_parts : (sys : System) (o : Order) (piece : Piece) (upto : List ℕ) (standing : Standing) (values : List ℕ) (gives : ℕ) (posts : List Post) (mail : List (List Batch)) →
    let w : Worker = record { standing = standing; values = values; gives = gives; start_posts = posts; mail = mail } in
    IsTrue (is_fresh w || (rests w && takes_a_batch upto w)) → weight o piece (after_taking sys piece upto w) + 1 ≤ weight o piece w
take_parts sys o piece upto Fresh values gives [] mail h = let k = taken_count upto mail in omega (arith, k)
take_parts sys o piece upto Fresh values gives (p ∷ posts) mail h = let k = taken_count upto mail in omega (arith, k)
take_parts sys o piece upto (Running hand) values gives posts mail h = absurd (false≢true h)
take_parts sys o piece upto Rest values gives [] mail h = let k = taken_count upto mail in let l = not_empty (taken_batches upto mail) (not-true _ h) in omega (arith, k, l)
take_parts sys o piece upto Rest values gives (p ∷ posts) mail h = let k = taken_count upto mail in omega (arith, k)

pub take_lowers : (sys : System) (o : Order) (piece : Piece) (upto : List ℕ) (w : Worker) → IsTrue (is_fresh w || (rests w && takes_a_batch upto w)) → weight o piece (after_taking sys piece upto w) + 1 ≤ weight o piece w
take_lowers sys o piece upto w h = take_parts sys o piece upto w.standing w.values w.gives w.start_posts w.mail h

-- ---- a Give

-- the routes of the owned values that change
abbrev pub changes : List ℕ → List ℕ → List (List Route) → ℕ
changes old new [] = 0
changes [] new (r ∷ routes) = 0
changes (a ∷ old) [] (r ∷ routes) = 0
changes (a ∷ old) (b ∷ new) (r ∷ routes) = (if a == b then 0 else length r) + changes old new routes

pub mul_le : (a b c : ℕ) → a ≤ b → a * c ≤ b * c
mul_le a b c h = mul-le-mul_right c h

pub heights_fall : (o : Order) (old new : List ℕ) (routes : List (List Route)) → length routes ≤ length old → length routes ≤ length new → ((p : ℕ) → p < length routes → Below o (slice_index new p) (slice_index old p)) →
    heights o new routes + changes old new routes ≤ heights o old routes
heights_fall o [] [] routes la lb h = go routes
  where
    go : (routes : List (List Route)) → heights o [] routes + changes [] [] routes ≤ heights o [] routes
    go [] = omega arith
    go (r ∷ routes) = omega arith
heights_fall o [] (b ∷ new) [] la lb h = omega arith
heights_fall o [] (b ∷ new) (r ∷ routes) la lb h = absurd (omega (arith, la))
heights_fall o (a ∷ old) [] [] la lb h = omega arith
heights_fall o (a ∷ old) [] (r ∷ routes) la lb h = absurd (omega (arith, lb))
heights_fall o (a ∷ old) (b ∷ new) [] la lb h = omega arith
heights_fall o (a ∷ old) (b ∷ new) (r ∷ routes) la lb h =
    let k = heights_fall o old new routes (omega (arith, la)) (omega (arith, lb)) (λ p l. h (suc p) (omega (arith, l))) in
    let low : Below o b a = h 0 (omega arith) in
    let here : height_of o b * length r + (if a == b then 0 else length r) ≤ height_of o a * length r = go low (a == b) refl in
    omega (arith, k, here)
  where
    go : Below o b a → (t : Bool) → (a == b) ≡ t → height_of o b * length r + (if t then 0 else length r) ≤ height_of o a * length r
    go low true e = let k = height-le o b a low in let n = mul_le (height_of o b) (height_of o a) (length r) k in omega (arith, n)
    go low false e =
        let k = height-lt o b a low (λ q. eqb-false a b e (sym q)) in
        let n = mul_le (height_of o b + 1) (height_of o a) (length r) (omega (arith, k)) in
        omega (arith, n)

-- f over count numbers from n on
abbrev pub sum_range : ℕ → ℕ → (ℕ → ℕ) → ℕ
sum_range n zero f = 0
sum_range n (suc count) f = f n + sum_range (n + 1) count f

range_none : (n count k : ℕ) → k < n → sum_range n count (λ q. cond (k == q) 1 0) ≡ 0
range_none n zero k h = refl
range_none n (suc count) k h =
    let a = range_none (n + 1) count k (omega (arith, h)) in
    let e = ap {B = ℕ} (λ b. cond b 1 0) (ne_eqb k n (λ q. absurd (omega (arith, h, q)))) in
    omega (arith, a, e)

range_one : (n count k : ℕ) → sum_range n count (λ q. cond (k == q) 1 0) ≤ 1
range_one n zero k = omega arith
range_one n (suc count) k = go (range_one (n + 1) count k) (k == n) refl
  where
    go : sum_range (n + 1) count (λ q. cond (k == q) 1 0) ≤ 1 → (b : Bool) → (k == n) ≡ b → cond b 1 0 + sum_range (n + 1) count (λ q. cond (k == q) 1 0) ≤ 1
    go again true e = let a = range_none (n + 1) count k (let q = eqb-true k n e in omega (arith, q)) in omega (arith, a)
    go again false e = omega (arith, again)

range_add : (n count : ℕ) (f g : ℕ → ℕ) → sum_range n count (λ q. f q + g q) ≡ sum_range n count f + sum_range n count g
range_add n zero f g = refl
range_add n (suc count) f g = let a = range_add (n + 1) count f g in omega (arith, a)

range_same : (n count : ℕ) (f g : ℕ → ℕ) → ((q : ℕ) → f q ≡ g q) → sum_range n count f ≡ sum_range n count g
range_same n zero f g h = refl
range_same n (suc count) f g h = let a = range_same (n + 1) count f g h in let b = h n in omega (arith, a, b)

range_zero : (n count : ℕ) → sum_range n count (λ k. 0) ≡ 0
range_zero n zero = refl
range_zero n (suc count) = let k = range_zero (n + 1) count in omega (arith, k)

-- a part at one number
pub range_at : (n count i d : ℕ) → n ≤ i → i < n + count → d ≤ sum_range n count (λ k. cond (k == i) d 0)
range_at n zero i d h l = absurd (omega (arith, h, l))
range_at n (suc count) i d h l = go (λ m. range_at (n + 1) count i d m (omega (arith, l))) (n == i) refl
  where
    go : (n + 1 ≤ i → d ≤ sum_range (n + 1) count (λ k. cond (k == i) d 0)) → (b : Bool) → (n == i) ≡ b → d ≤ cond b d 0 + sum_range (n + 1) count (λ k. cond (k == i) d 0)
    go again true e = omega arith
    go again false e = let ne = eqb-false n i e in let a = again (less h ne) in omega (arith, a)
      where
        less : n ≤ i → (n ≡ i → ⊥) → n + 1 ≤ i
        less h ne = omega (arith, h, ne)

abbrev along : ℕ → ℕ → List Route → List Post
along k b rs = map (λ t. record { mirror = t.mirror; value = b }) (filter (λ t. t.fragment == k) rs)

along-cons : (k b : ℕ) (r : Route) (rs : List Route) → length (along k b (r ∷ rs)) ≡ cond (r.fragment == k) 1 0 + length (along k b rs)
along-cons k b r rs = go (r.fragment == k)
  where
    go : (t : Bool) → length (map (λ (t : Route). let p : Post = record { mirror = t.mirror; value = b } in p) (cond t (r ∷ filter (λ t. t.fragment == k) rs) (filter (λ t. t.fragment == k) rs))) ≡ cond t 1 0 + length (along k b rs)
    go true = omega arith
    go false = omega arith

-- the routes of one value lead to one fragment each
routes_sum : (n count b : ℕ) (rs : List Route) → sum_range n count (λ k. length (along k b rs)) ≤ length rs
routes_sum n count b [] = let k = range_zero n count in omega (arith, k)
routes_sum n count b (r ∷ rs) =
    let again = routes_sum n count b rs in
    let same = range_same n count (λ k. length (along k b (r ∷ rs))) (λ k. cond (r.fragment == k) 1 0 + length (along k b rs)) (λ k. along-cons k b r rs) in
    let add = range_add n count (λ k. cond (r.fragment == k) 1 0) (λ k. length (along k b rs)) in
    let one = range_one n count r.fragment in
    omega (arith, again, same, add, one)

posts-cons : (k a b : ℕ) (old new : List ℕ) (r : Route) (routes : List (List Route)) (rs : List Route) →
    length (posts_to k (a ∷ old) (b ∷ new) (rs ∷ routes)) ≡ (if a == b then 0 else length (along k b rs)) + length (posts_to k old new routes)
posts-cons k a b old new r routes rs =
    let e = length-append (if a == b then [] else along k b rs) (posts_to k old new routes) in
    let f = go (a == b) in
    omega (arith, e, f)
  where
    go : (t : Bool) → length (if t then [] else along k b rs) ≡ (if t then 0 else length (along k b rs))
    go true = refl
    go false = refl

-- no more posts than routes of changed values
pub posts_sum : (n count : ℕ) (old new : List ℕ) (routes : List (List Route)) → sum_range n count (λ k. length (posts_to k old new routes)) ≤ changes old new routes
posts_sum n count old new [] = let k = range_zero n count in omega (arith, k)
posts_sum n count [] new (rs ∷ routes) = let k = range_zero n count in omega (arith, k)
posts_sum n count (a ∷ old) [] (rs ∷ routes) = let k = range_zero n count in omega (arith, k)
posts_sum n count (a ∷ old) (b ∷ new) (rs ∷ routes) =
    let again = posts_sum n count old new routes in
    let same = range_same n count (λ k. length (posts_to k (a ∷ old) (b ∷ new) (rs ∷ routes))) (λ k. (if a == b then 0 else length (along k b rs)) + length (posts_to k old new routes))
    (λ k. posts-cons k a b old new (record { fragment = 0; mirror = 0 }) routes rs) in
    let add = range_add n count (λ k. if a == b then 0 else length (along k b rs)) (λ k. length (posts_to k old new routes)) in
    let here = go (a == b) in
    omega (arith, again, same, add, here)
  where
    go : (t : Bool) → sum_range n count (λ k. if t then 0 else length (along k b rs)) ≤ (if t then 0 else length rs)
    go true = let k = range_zero n count in omega (arith, k)
    go false = routes_sum n count b rs

-- one more batch
set_more : (mail : List (List Batch)) (j : ℕ) (b : Batch) → sum_by length (slice_set mail j (slice_index_or mail j [] ++ b ∷ [])) ≤ sum_by length mail + 1
set_more [] j b = omega arith
set_more (bs ∷ mail) zero b =
    let a = sum_by-cons {X = List Batch} length (bs ++ b ∷ []) mail in
    let c = sum_by-cons {X = List Batch} length bs mail in
    let d = length-append bs (b ∷ []) in
    omega (arith, a, c, d)
set_more (bs ∷ mail) (suc j) b =
    let a = sum_by-cons {X = List Batch} length bs (slice_set mail j (slice_index_or mail j [] ++ b ∷ [])) in
    let c = sum_by-cons {X = List Batch} length bs mail in
    let k = set_more mail j b in
    omega (arith, a, c, k)

receive_weight : (o : Order) (piece : Piece) (j number : ℕ) (posts : List Post) (w : Worker) → weight o piece (after_receiving j number posts w) ≤ weight o piece w + length posts
receive_weight o piece j number [] w = omega arith
receive_weight o piece j number (p ∷ posts) w = let k = set_more w.mail j (record { number = number; posts = p ∷ posts }) in omega (arith, k)

-- what the giver loses covers what the others get
pub give_total : (sys : System) (o : Order) (i number drop : ℕ) (from : Piece) (posts : ℕ → List Post) (n : ℕ) (pieces : List Piece) (ws : BaseState) → length pieces ≡ length ws →
    ((q : ℕ) → q < length ws → n + q ≡ i → weight o (piece_at pieces q) (after_giving sys from (worker_at ws q)) + drop ≤ weight o (piece_at pieces q) (worker_at ws q)) →
    total o pieces (each_worker_from n (λ k w. if k == i then after_giving sys from w else after_receiving i number (posts k) w) ws) + sum_range n (length ws) (λ k. cond (k == i) drop 0)
    ≤ total o pieces ws + sum_range n (length ws) (λ k. length (posts k))
give_total sys o i number drop from posts n [] [] e h = omega arith
give_total sys o i number drop from posts n [] (w ∷ ws) e h = absurd (omega (arith, e))
give_total sys o i number drop from posts n (p ∷ pieces) [] e h = absurd (omega (arith, e))
give_total sys o i number drop from posts n (p ∷ pieces) (w ∷ ws) e h =
    let again = give_total sys o i number drop from posts (n + 1) pieces ws (omega (arith, e)) (λ q l f. h (suc q) (omega (arith, l)) (omega (arith, f))) in
    let here : weight o p (if n == i then after_giving sys from w else after_receiving i number (posts n) w) + cond (n == i) drop 0 ≤ weight o p w + length (posts n) = go (n == i) refl in
    omega (arith, again, here)
  where
    go : (t : Bool) → (n == i) ≡ t → weight o p (if t then after_giving sys from w else after_receiving i number (posts n) w) + cond t drop 0 ≤ weight o p w + length (posts n)
    go true f = let k = h 0 (omega arith) (let q = eqb-true n i f in omega (arith, q)) in omega (arith, k)
    go false f = let k = receive_weight o p i number (posts n) w in omega (arith, k)
