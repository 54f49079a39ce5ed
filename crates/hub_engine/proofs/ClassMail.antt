-- What waits in both classes is all that waits.
use Rattle.std.proofs.Common.{◌≡◌, ℕ, zero, suc, ◌+◌, ◌<◌, Bool, true, false, not, cond, refl, sym, ◌∙◌, ap, subst, arith, List, [], ◌∷◌, ◌++◌, length, map, filter, flat_map, slice_index_or}
use Rattle.std.specs.List.{AllByRecursion, range_with_len}
use Rattle.value_order.specs.declared.order.Order.{Order}
use Rattle.value_order.specs.declared.TheConstants.{NOTHING}
use Rattle.value_order.specs.Order.{meet_of, meet_all}
use Rattle.value_order.proofs.Orders.{Below-refl, Below-antisym, meet-below_left, meet-below_right, meet-greatest}
use Rattle.graph_core.specs.Fragments.{piece_at, numbers_below}
use Rattle.message_buffer.specs.Buffers.{meets_of, all_waiting}
use Rattle.base_machine.specs.Machine.{System, Batch, Post, worker_at, pending_posts, posts_in, values_for, met_posts}
use Rattle.base_machine.proofs.Meets.{meet_all-lower, meet_all-greatest}
use Rattle.base_machine.proofs.Posts.{IsPostedAbove, all_values, values_all, all_append, all_left, all_right}
use Rattle.legal_journal.specs.Past.{is_tagged}
use Rattle.legal_journal.specs.Legal.{State, worker_count}
use Rattle.legal_journal.proofs.Journals.{AreCounted}
use Rattle.hub_engine.specs.Desks.{buffer_of, waiting_in_class}

-- zs has just what xs and ys have
pub record AreSplit (xs ys zs : List Post) : Type 1 where
  pub joined : (P : Post → Type 0) → AllByRecursion P xs → AllByRecursion P ys → AllByRecursion P zs
  pub first : (P : Post → Type 0) → AllByRecursion P zs → AllByRecursion P xs
  pub second : (P : Post → Type 0) → AllByRecursion P zs → AllByRecursion P ys

-- the meets of two such lists are met in that of the whole
met_at : (o : Order) (m : ℕ) (xs ys zs : List Post) → AreSplit xs ys zs → meet_of o (meet_all o NOTHING (values_for m xs)) (meet_all o NOTHING (values_for m ys)) ≡ meet_all o NOTHING (values_for m zs)
met_at o m xs ys zs split =
    let a = meet_all o NOTHING (values_for m xs) in
    let b = meet_all o NOTHING (values_for m ys) in
    let c = meet_all o NOTHING (values_for m zs) in
    let both = meet_of o a b in
    let low = meet_all-lower o both NOTHING (values_for m xs) (meet-below_left o a b) in
    let low' = meet_all-lower o both NOTHING (values_for m ys) (meet-below_right o a b) in
    let all = meet_all-lower o c NOTHING (values_for m zs) (Below-refl o c) in
    let posts = values_all o m c zs all.1 in
    Below-antisym o both c
    (meet_all-greatest o both NOTHING (values_for m zs) (low.0, all_values o m both zs (split.joined (IsPostedAbove o m both) (values_all o m both xs low.1) (values_all o m both ys low'.1))))
    (meet-greatest o a b c (meet_all-greatest o c NOTHING (values_for m xs) (all.0, all_values o m c xs (split.first (IsPostedAbove o m c) posts)))
    (meet_all-greatest o c NOTHING (values_for m ys) (all.0, all_values o m c ys (split.second (IsPostedAbove o m c) posts))))

met_from : (o : Order) (a n : ℕ) (xs ys zs : List Post) → AreSplit xs ys zs →
    meets_of o (map (λ m. meet_all o NOTHING (values_for m xs)) (range_with_len a n)) (map (λ m. meet_all o NOTHING (values_for m ys)) (range_with_len a n)) ≡ map (λ m. meet_all o NOTHING (values_for m zs)) (range_with_len a n)
met_from o a zero xs ys zs split = refl
met_from o a (suc n) xs ys zs split =
    let p = met_at o a xs ys zs split in
    let q = met_from o (a + 1) n xs ys zs split in
    λ i. p i ∷ q i

pub met_split : (o : Order) (n : ℕ) (xs ys zs : List Post) → AreSplit xs ys zs → meets_of o (met_posts o n xs) (met_posts o n ys) ≡ met_posts o n zs
met_split o n xs ys zs split = met_from o 0 n xs ys zs split

-- ---- the classes split what waits

module _ (P : Post → Type 0) where
  -- of one sender
  first_of : (test : Batch → Bool) (bs : List Batch) → AllByRecursion P (posts_in bs) → AllByRecursion P (posts_in (filter test bs))
  first_of test [] h = tt
  first_of test (b ∷ bs) h = go (test b) (first_of test bs (all_right P b.posts (posts_in bs) h))
    where
      go : (c : Bool) → AllByRecursion P (posts_in (filter test bs)) → AllByRecursion P (posts_in (cond c (b ∷ filter test bs) (filter test bs)))
      go true k = all_append P b.posts (posts_in (filter test bs)) (all_left P b.posts (posts_in bs) h) k
      go false k = k

  joined_of : (test : Batch → Bool) (bs : List Batch) → AllByRecursion P (posts_in (filter (λ b. not (test b)) bs)) → AllByRecursion P (posts_in (filter test bs)) → AllByRecursion P (posts_in bs)
  joined_of test [] h k = tt
  joined_of test (b ∷ bs) h k = go (test b) (joined_of test bs) h k
    where
      go : (c : Bool) → (AllByRecursion P (posts_in (filter (λ b. not (test b)) bs)) → AllByRecursion P (posts_in (filter test bs)) → AllByRecursion P (posts_in bs)) →
          AllByRecursion P (posts_in (cond (not c) (b ∷ filter (λ b. not (test b)) bs) (filter (λ b. not (test b)) bs))) → AllByRecursion P (posts_in (cond c (b ∷ filter test bs) (filter test bs))) → AllByRecursion P (b.posts ++ posts_in bs)
      go true again h k = all_append P b.posts (posts_in bs) (all_left P b.posts (posts_in (filter test bs)) k) (again h (all_right P b.posts (posts_in (filter test bs)) k))
      go false again h k =
          all_append P b.posts (posts_in bs) (all_left P b.posts (posts_in (filter (λ b. not (test b)) bs)) h) (again (all_right P b.posts (posts_in (filter (λ b. not (test b)) bs)) h) k)

  in_both : (xs ys : List Batch) → AllByRecursion P (posts_in xs) → AllByRecursion P (posts_in ys) → AllByRecursion P (posts_in (xs ++ ys))
  in_both [] ys h k = k
  in_both (x ∷ xs) ys h k = all_append P x.posts (posts_in (xs ++ ys)) (all_left P x.posts (posts_in xs) h) (in_both xs ys (all_right P x.posts (posts_in xs) h) k)

  in_left : (xs ys : List Batch) → AllByRecursion P (posts_in (xs ++ ys)) → AllByRecursion P (posts_in xs)
  in_left [] ys h = tt
  in_left (x ∷ xs) ys h = all_append P x.posts (posts_in xs) (all_left P x.posts (posts_in (xs ++ ys)) h) (in_left xs ys (all_right P x.posts (posts_in (xs ++ ys)) h))

  in_right : (xs ys : List Batch) → AllByRecursion P (posts_in (xs ++ ys)) → AllByRecursion P (posts_in ys)
  in_right [] ys h = h
  in_right (x ∷ xs) ys h = in_right xs ys (all_right P x.posts (posts_in (xs ++ ys)) h)

  -- of all senders, from the a-th on
  class_all : (test : ℕ → Batch → Bool) (mail : List (List Batch)) (a : ℕ) (all : List (List Batch)) → ((k : ℕ) → slice_index_or all (a + k) [] ≡ slice_index_or mail k []) → AllByRecursion P (flat_map posts_in mail) →
      AllByRecursion P (posts_in (flat_map (λ j. filter (test j) (slice_index_or all j [])) (range_with_len a (length mail))))
  class_all test [] a all h k = tt
  class_all test (bs ∷ mail) a all h k =
      let here : slice_index_or all a [] ≡ bs = (let z : a ≡ a + 0 = omega arith in ap (λ n. slice_index_or all n []) z ∙ h 0) in
      in_both (filter (test a) (slice_index_or all a [])) (flat_map (λ j. filter (test j) (slice_index_or all j [])) (range_with_len (a + 1) (length mail)))
      (first_of (test a) (slice_index_or all a []) (subst (λ q. AllByRecursion P (posts_in q)) (sym here) (all_left P (posts_in bs) (flat_map posts_in mail) k)))
      (class_all test mail (a + 1) all (λ n. let z : a + 1 + n ≡ a + suc n = omega arith in ap (λ q. slice_index_or all q []) z ∙ h (suc n)) (all_right P (posts_in bs) (flat_map posts_in mail) k))

  classes_all : (test : ℕ → Batch → Bool) (mail : List (List Batch)) (a : ℕ) (all : List (List Batch)) → ((k : ℕ) → slice_index_or all (a + k) [] ≡ slice_index_or mail k []) →
      AllByRecursion P (posts_in (flat_map (λ j. filter (λ b. not (test j b)) (slice_index_or all j [])) (range_with_len a (length mail)))) →
      AllByRecursion P (posts_in (flat_map (λ j. filter (test j) (slice_index_or all j [])) (range_with_len a (length mail)))) → AllByRecursion P (flat_map posts_in mail)
  classes_all test [] a all h x y = tt
  classes_all test (bs ∷ mail) a all h x y =
      let here : slice_index_or all a [] ≡ bs = (let z : a ≡ a + 0 = omega arith in ap (λ n. slice_index_or all n []) z ∙ h 0) in
      let xs = filter (λ b. not (test a b)) (slice_index_or all a []) in
      let ys = filter (test a) (slice_index_or all a []) in
      let more = flat_map (λ j. filter (λ b. not (test j b)) (slice_index_or all j [])) (range_with_len (a + 1) (length mail)) in
      let more' = flat_map (λ j. filter (test j) (slice_index_or all j [])) (range_with_len (a + 1) (length mail)) in
      all_append P (posts_in bs) (flat_map posts_in mail)
      (subst (λ q. AllByRecursion P (posts_in q)) here (joined_of (test a) (slice_index_or all a []) (in_left xs more x) (in_left ys more' y)))
      (classes_all test mail (a + 1) all (λ n. let z : a + 1 + n ≡ a + suc n = omega arith in ap (λ q. slice_index_or all q []) z ∙ h (suc n)) (in_right xs more x) (in_right ys more' y))

-- what waits for worker i in both classes, and the mail of the start, is all that is pending for it
pub split_pending : (s : State) (i : ℕ) → AreCounted (worker_count s) s → i < worker_count s →
    AreSplit ((worker_at s.workers i).start_posts ++ posts_in (waiting_in_class false s i)) (posts_in (waiting_in_class true s i)) (pending_posts (worker_at s.workers i))
split_pending s i counted inside =
    let w = worker_at s.workers i in
    let test : ℕ → Batch → Bool = λ j b. is_tagged j b.number s.past in
    let n : length w.mail ≡ worker_count s = (counted.mail i inside).senders in
    let same : (k : ℕ) → slice_index_or w.mail (0 + k) [] ≡ slice_index_or w.mail k [] = λ k. ap (λ m. slice_index_or w.mail m []) (omega arith) in
    record {
      joined = λ P x y.
          all_append P w.start_posts (flat_map posts_in w.mail) (all_left P w.start_posts (posts_in (waiting_in_class false s i)) x)
          (classes_all P test w.mail 0 w.mail same
          (subst (λ m. AllByRecursion P (posts_in (flat_map (λ j. filter (λ b. not (test j b)) (slice_index_or w.mail j [])) (numbers_below m)))) (sym n) (all_right P w.start_posts (posts_in (waiting_in_class false s i)) x))
          (subst (λ m. AllByRecursion P (posts_in (flat_map (λ j. filter (test j) (slice_index_or w.mail j [])) (numbers_below m)))) (sym n) y));
      first = λ P z.
          all_append P w.start_posts (posts_in (waiting_in_class false s i)) (all_left P w.start_posts (flat_map posts_in w.mail) z)
          (subst (λ m. AllByRecursion P (posts_in (flat_map (λ j. filter (λ b. not (test j b)) (slice_index_or w.mail j [])) (numbers_below m)))) n
          (class_all P (λ j b. not (test j b)) w.mail 0 w.mail same (all_right P w.start_posts (flat_map posts_in w.mail) z)));
      second = λ P z.
          subst (λ m. AllByRecursion P (posts_in (flat_map (λ j. filter (test j) (slice_index_or w.mail j [])) (numbers_below m)))) n
          (class_all P test w.mail 0 w.mail same (all_right P w.start_posts (flat_map posts_in w.mail) z));
    }

-- so a buffer's classes are met in all that is pending
pub all_waiting_is : (sys : System) (s : State) (i : ℕ) → AreCounted (worker_count s) s → i < worker_count s →
    all_waiting (buffer_of sys s i) ≡ met_posts sys.equations.order (length (piece_at sys.pieces i).mirrors) (pending_posts (worker_at s.workers i))
all_waiting_is sys s i counted inside =
    met_split sys.equations.order (length (piece_at sys.pieces i).mirrors) ((worker_at s.workers i).start_posts ++ posts_in (waiting_in_class false s i)) (posts_in (waiting_in_class true s i)) (pending_posts (worker_at s.workers i))
    (split_pending s i counted inside)
