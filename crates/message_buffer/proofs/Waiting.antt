-- What both classes have together.
use Rattle.std.proofs.Common.{◌≡◌, ℕ, suc, ◌+◌, ◌<◌, ◌≤◌, ◌⊎◌, inl, inr, Bool, true, false, not, ◌&&◌, ◌||◌, if◌then◌else◌, cond, ◌==◌, List, [], ◌∷◌, length, slice_index, count_by, ap, sym, ◌∙◌, refl, arith}
use Rattle.std.specs.List.{range_with_len}
use Rattle.std.proofs.lemmas.List.Sums.{sum_by-cons}
use Rattle.std.proofs.lemmas.Bool.{and_right, eq-eqb, ne_eqb}
use Rattle.value_order.specs.declared.order.Order.{Order}
use Rattle.value_order.specs.declared.TheConstants.{NOTHING}
use Rattle.value_order.specs.Order.{meet_of, meet_all}
use Rattle.message_buffer.specs.Buffers.{count_values}
use Rattle.message_buffer.specs.Posted.{Step, Begins, Posts, Folds, same_class, has_fold, values_posted, batches_begun, all_values_posted, all_batches_begun, is_posted_to, PostsAreValues}
use Rattle.message_buffer.proofs.Meeting.{meet-assoc, meet-turn, meet-le_l, meet-le_r}

-- ---- the meet of both classes

-- a post to a mirror goes to one class
post_met : (o : Order) (q r : Bool) (v a b : ℕ) (xs ys zs : List ℕ) → ((a b : ℕ) → meet_of o (meet_all o a xs) (meet_all o b ys) ≡ meet_all o (meet_of o a b) zs) →
    meet_of o (meet_all o a (if same_class false q && r then v ∷ xs else xs)) (meet_all o b (if same_class true q && r then v ∷ ys else ys)) ≡ meet_all o (meet_of o a b) (if r then v ∷ zs else zs)
post_met o true true v a b xs ys zs rest = rest a (meet_of o b v) ∙ ap (λ x. meet_all o x zs) (sym (meet-assoc o a b v))
post_met o true false v a b xs ys zs rest = rest a b
post_met o false true v a b xs ys zs rest = rest (meet_of o a v) b ∙ ap (λ x. meet_all o x zs) (meet-turn o a v b)
post_met o false false v a b xs ys zs rest = rest a b

pub both_met : (o : Order) (m : ℕ) (steps : List Step) (a b : ℕ) → meet_of o (meet_all o a (values_posted false m steps)) (meet_all o b (values_posted true m steps)) ≡ meet_all o (meet_of o a b) (all_values_posted m steps)
both_met o m [] a b = refl
both_met o m (Begins tagged ∷ later) a b = both_met o m later a b
both_met o m (Posts tagged k v ∷ later) a b =
    post_met o (tagged && not (has_fold later)) (k == m) v a b (values_posted false m later) (values_posted true m later) (all_values_posted m later) (both_met o m later)
both_met o m (Folds ∷ later) a b = both_met o m later a b

-- ---- the batches of both classes

batch_counted : (q : Bool) (x y z : ℕ) → x + y ≡ z → (if same_class false q then 1 else 0) + x + ((if same_class true q then 1 else 0) + y) ≡ 1 + z
batch_counted true x y z e = omega (arith, e)
batch_counted false x y z e = omega (arith, e)

pub both_counted : (steps : List Step) → batches_begun false steps + batches_begun true steps ≡ all_batches_begun steps
both_counted [] = refl
both_counted (Begins tagged ∷ later) = batch_counted (tagged && not (has_fold later)) (batches_begun false later) (batches_begun true later) (all_batches_begun later) (both_counted later)
both_counted (Posts tagged k v ∷ later) = both_counted later
both_counted (Folds ∷ later) = both_counted later

-- ---- where a value waits

meet_all-le : (o : Order) (a : ℕ) (xs : List ℕ) → meet_all o a xs ≤ a
meet_all-le o a [] = omega arith
meet_all-le o a (x ∷ xs) = omega (arith, meet_all-le o (meet_of o a x) xs, meet-le_l o a x)

-- a value lowers a meet below NOTHING
below_nothing : (o : Order) (a v : ℕ) (xs : List ℕ) → v < NOTHING → meet_all o a (v ∷ xs) < NOTHING
below_nothing o a v xs h = omega (arith, h, meet_all-le o (meet_of o a v) xs, meet-le_r o a v)

-- Neither class has a value, or one of them has less than NOTHING.
abbrev AreKnown : Order → Bool → List ℕ → List ℕ → Type 0
AreKnown o false xs ys = (xs ≡ []) × (ys ≡ [])
AreKnown o true xs ys = (a : ℕ) → (meet_all o a xs < NOTHING) ⊎ (meet_all o a ys < NOTHING)

post_known : (o : Order) (q r p : Bool) (v : ℕ) (xs ys : List ℕ) → v < NOTHING → AreKnown o p xs ys → AreKnown o (r || p) (if same_class false q && r then v ∷ xs else xs) (if same_class true q && r then v ∷ ys else ys)
post_known o true true p v xs ys h k = λ a. inr (below_nothing o a v ys h)
post_known o true false p v xs ys h k = k
post_known o false true p v xs ys h k = λ a. inl (below_nothing o a v xs h)
post_known o false false p v xs ys h k = k

known : (o : Order) (m : ℕ) (steps : List Step) → PostsAreValues steps → AreKnown o (is_posted_to steps m) (values_posted false m steps) (values_posted true m steps)
known o m [] h = (refl, refl)
known o m (Begins tagged ∷ later) h = known o m later h
known o m (Posts tagged k v ∷ later) h =
    post_known o (tagged && not (has_fold later)) (k == m) (is_posted_to later m) v (values_posted false m later) (values_posted true m later) h.0 (known o m later h.1)
known o m (Folds ∷ later) h = known o m later h

none_waits : (o : Order) (p : Bool) (xs ys : List ℕ) → AreKnown o p xs ys → ((meet_all o NOTHING xs == NOTHING) && (meet_all o NOTHING ys == NOTHING)) ≡ not p
none_waits o false xs ys k =
    (λ t. (meet_all o NOTHING (k.0 t) == NOTHING) && (meet_all o NOTHING (k.1 t) == NOTHING)) ∙ ap (λ b. b && b) (eq-eqb NOTHING NOTHING refl)
none_waits o true xs ys k = go (k NOTHING)
  where
    go : (meet_all o NOTHING xs < NOTHING) ⊎ (meet_all o NOTHING ys < NOTHING) → ((meet_all o NOTHING xs == NOTHING) && (meet_all o NOTHING ys == NOTHING)) ≡ false
    go (inl h) = ap (λ b. b && (meet_all o NOTHING ys == NOTHING)) (ne_eqb (meet_all o NOTHING xs) NOTHING (λ e. omega (arith, h, e)))
    go (inr h) = and_right (meet_all o NOTHING xs == NOTHING) _ (ne_eqb (meet_all o NOTHING ys) NOTHING (λ e. omega (arith, h, e)))

abbrev one_if_not : Bool → ℕ
one_if_not b = if b then 0 else 1

one_more : (p : Bool) (b : Bool) → b ≡ not p → one_if_not b ≡ cond p 1 0
one_more true b e = ap one_if_not e
one_more false b e = ap one_if_not e

counted : (f : ℕ → Bool) (a : ℕ) (xs ys : List ℕ) → length ys ≡ length xs → ((j : ℕ) → j < length xs → ((slice_index xs j == NOTHING) && (slice_index ys j == NOTHING)) ≡ not (f (a + j))) →
    count_values xs ys ≡ count_by f (range_with_len a (length xs))
counted f a [] ys e h = refl
counted f a (x ∷ xs) [] e h = absurd (omega (arith, e))
counted f a (x ∷ xs) (y ∷ ys) e h =
    let z : a + 0 ≡ a = omega arith in
    let head = one_more (f a) ((x == NOTHING) && (y == NOTHING)) (h 0 (omega arith) ∙ ap (λ n. not (f n)) z) in
    let rest = counted f (a + 1) xs ys (omega (arith, e)) (λ j l. let q : a + suc j ≡ a + 1 + j = omega arith in h (suc j) (omega (arith, l)) ∙ ap (λ n. not (f n)) q) in
    (λ t. head t + rest t) ∙ sym (sum_by-cons (λ n. cond (f n) 1 0) a (range_with_len (a + 1) (length xs)))

pub both_waiting : (o : Order) (mirrors : ℕ) (steps : List Step) (xs ys : List ℕ) → PostsAreValues steps → length xs ≡ mirrors → length ys ≡ mirrors →
    ((m : ℕ) → m < mirrors → slice_index xs m ≡ meet_all o NOTHING (values_posted false m steps)) → ((m : ℕ) → m < mirrors → slice_index ys m ≡ meet_all o NOTHING (values_posted true m steps)) →
    count_values xs ys ≡ count_by (is_posted_to steps) (range_with_len 0 mirrors)
both_waiting o mirrors steps xs ys values lx ly plain tagged =
    counted (is_posted_to steps) 0 xs ys (ly ∙ sym lx)
    (λ j l.
    let h : j < mirrors = omega (arith, l, lx) in
    let z : j ≡ 0 + j = omega arith in
    (λ t. (plain j h t == NOTHING) && (tagged j h t == NOTHING)) ∙ none_waits o (is_posted_to steps j) _ _ (known o j steps values) ∙ ap (λ n. not (is_posted_to steps n)) z)
    ∙ ap (λ n. count_by (is_posted_to steps) (range_with_len 0 n)) lx
