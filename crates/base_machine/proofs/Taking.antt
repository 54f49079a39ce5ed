-- A Take keeps its worker fit.
use Rattle.std.proofs.Common.{◌≡◌, ℕ, ◌+◌, ◌<◌, ◌⊎◌, inl, inr, refl, sym, ◌∙◌, ap, subst, arith, List, [], ◌∷◌, ◌++◌, length, flat_map, slice_index, slice_index_or}
use Rattle.std.specs.List.{AllByRecursion}
use Rattle.std.proofs.lemmas.Bool.{false≢true}
use Rattle.std.proofs.lemmas.List.FromFn.{length-map-range_with_len, get_or-map-range_with_len}
use Rattle.value_order.specs.declared.order.Order.{Order}
use Rattle.value_order.specs.Order.{Below, meet_all}
use Rattle.value_order.specs.declared.TheConstants.{NOTHING}
use Rattle.value_order.proofs.Orders.{Below-refl, Below-trans}
use Rattle.graph_core.specs.Equations.{Assignment}
use Rattle.graph_core.specs.Fragments.{Piece, StandsAt}
use Rattle.base_machine.specs.Machine.{System, BaseState, Worker, Batch, Post, hand_of, pending_posts, posts_in, values_for, met_posts, taken_batches, left_batches, after_taking}
use Rattle.base_machine.specs.Fitness.{IsFitWorker, IsBetween, known_at}
use Rattle.base_machine.proofs.Meets.{meet_all-lower, meet_all-greatest, meet_all-same}
use Rattle.base_machine.proofs.Posts.{all_append, all_left, all_right, of_taken, of_left, of_both, IsPostedAbove, all_values, all_values_of, all_since, values_all}

pub length-left_batches : (upto : List ℕ) (mail : List (List Batch)) → length upto ≡ length mail → length (left_batches upto mail) ≡ length mail
length-left_batches [] mail e = refl
length-left_batches (u ∷ upto) [] e = refl
length-left_batches (u ∷ upto) (bs ∷ mail) e = let k = length-left_batches upto mail (omega (arith, e)) in omega (arith, k)

-- the meet of the values posted to a mirror, as it stands in the hand
pub met_at : (o : Order) (n m : ℕ) (posts : List Post) → m < n → slice_index_or (met_posts o n posts) m NOTHING ≡ meet_all o NOTHING (values_for m posts)
met_at o n m posts h = get_or-map-range_with_len (λ k. meet_all o NOTHING (values_for k posts)) 0 n m m NOTHING h (omega arith)

-- posts to a mirror of v lie between, where all posts of the worker do
pub between_at : (sys : System) (g : Assignment) (piece : Piece) (m v : ℕ) → StandsAt piece.mirrors m v → (posts : List Post) →
    AllByRecursion (λ p. (u : ℕ) → StandsAt piece.mirrors p.mirror u → IsBetween sys g u p.value) posts → AllByRecursion (IsBetween sys g v) (values_for m posts)
between_at sys g piece m v k posts h =
    all_values_of (IsBetween sys g v) m posts
    (all_since (λ p. (u : ℕ) → StandsAt piece.mirrors p.mirror u → IsBetween sys g u p.value) (λ p. p.mirror ≡ m → IsBetween sys g v p.value)
    (λ p f e. f v (subst (λ n. StandsAt piece.mirrors n v) (sym e) k)) posts h)

lower_of : (sys : System) (g : Assignment) (v : ℕ) (xs : List ℕ) → AllByRecursion (IsBetween sys g v) xs → AllByRecursion (Below sys.equations.order (g v)) xs
lower_of sys g v xs h = all_since (IsBetween sys g v) (Below sys.equations.order (g v)) (λ x k. k.0) xs h

-- the meet of values between is NOTHING or between
pub meet_between : (sys : System) (g : Assignment) (v : ℕ) → Below sys.equations.order (sys.equations.start v) NOTHING → (xs : List ℕ) → AllByRecursion (IsBetween sys g v) xs →
    (meet_all sys.equations.order NOTHING xs ≡ NOTHING) ⊎ IsBetween sys g v (meet_all sys.equations.order NOTHING xs)
meet_between sys g v small [] h = inl refl
meet_between sys g v small (x ∷ xs) h =
    let o = sys.equations.order in
    let all = meet_all o NOTHING (x ∷ xs) in
    let g_small = Below-trans o (g v) x NOTHING h.0.0 (Below-trans o x (sys.equations.start v) NOTHING h.0.1 small) in
    inr (
      meet_all-greatest o (g v) NOTHING (x ∷ xs) (g_small, lower_of sys g v (x ∷ xs) h),
      Below-trans o all x (sys.equations.start v) (meet_all-lower o all NOTHING (x ∷ xs) (Below-refl o all)).1.0 h.0.1,
    )

-- what is taken moves from the mail into the hand
pub known_after_taking : (sys : System) (piece : Piece) (upto : List ℕ) (w : Worker) (m : ℕ) → m < length piece.mirrors → hand_of w ≡ [] →
    known_at sys piece (after_taking sys piece upto w) m ≡ known_at sys piece w m
known_after_taking sys piece upto w m h empty =
    let o = sys.equations.order in
    let a = slice_index w.values (length piece.owned + m) in
    let posts = w.start_posts ++ posts_in (taken_batches upto w.mail) in
    let hand = slice_index_or (met_posts o (length piece.mirrors) posts) m NOTHING in
    let in_hand : hand ≡ meet_all o NOTHING (values_for m posts) = met_at o (length piece.mirrors) m posts h in
    let left = flat_map posts_in (left_batches upto w.mail) in
    let old_hand : slice_index_or (hand_of w) m NOTHING ≡ NOTHING = ap (λ l. slice_index_or l m NOTHING) empty in
    meet_all-same o a (hand ∷ values_for m left) a (slice_index_or (hand_of w) m NOTHING ∷ values_for m (pending_posts w))
    (λ c k.
    let Q = IsPostedAbove o m c in
    let below_hand : Below o c (meet_all o NOTHING (values_for m posts)) = subst (Below o c) in_hand k.1.0 in
    let of_posts = meet_all-lower o c NOTHING (values_for m posts) below_hand in
    let taken = values_all o m c posts of_posts.1 in
    let others = values_all o m c left k.1.1 in (
      k.0,
      (
        subst (Below o c) (sym old_hand) of_posts.0,
        all_values o m c (pending_posts w)
            (all_append Q w.start_posts (flat_map posts_in w.mail) (all_left Q w.start_posts (posts_in (taken_batches upto w.mail)) taken)
            (of_both Q upto w.mail (all_right Q w.start_posts (posts_in (taken_batches upto w.mail)) taken) others)),
      ),
    ))
    (λ c k.
    let Q = IsPostedAbove o m c in
    let all = values_all o m c (pending_posts w) k.1.1 in
    let from_start = all_left Q w.start_posts (flat_map posts_in w.mail) all in
    let from_mail = all_right Q w.start_posts (flat_map posts_in w.mail) all in
    let taken = all_values o m c posts (all_append Q w.start_posts (posts_in (taken_batches upto w.mail)) from_start (of_taken Q upto w.mail from_mail)) in (
      k.0,
      (
        subst (Below o c) (sym in_hand) (meet_all-greatest o c NOTHING (values_for m posts) (subst (Below o c) old_hand k.1.0, taken)),
        all_values o m c left (of_left Q upto w.mail from_mail),
      ),
    ))

-- the worker stays fit, and the others' values stay
pub taking_keeps : (sys : System) (g : Assignment) (ws : BaseState) (piece : Piece) (upto : List ℕ) (w : Worker) →
    ((m v : ℕ) → StandsAt piece.mirrors m v → Below sys.equations.order (sys.equations.start v) NOTHING) → length upto ≡ length ws → hand_of w ≡ [] →
    IsFitWorker sys g ws piece w → IsFitWorker sys g ws piece (after_taking sys piece upto w)
taking_keeps sys g ws piece upto w small counts empty fit =
    let o = sys.equations.order in
    let n = length piece.mirrors in
    let posts = w.start_posts ++ posts_in (taken_batches upto w.mail) in
    let Between : Post → Type 0 = λ p. (u : ℕ) → StandsAt piece.mirrors p.mirror u → IsBetween sys g u p.value in
    let InRange : Post → Type 0 = λ p. p.mirror < n in
    record {
      shape = record {
        values = fit.shape.values;
        hand = let e = length-map-range_with_len (λ k. meet_all o NOTHING (values_for k posts)) 0 n in omega (arith, e);
        senders = length-left_batches upto w.mail (counts ∙ sym fit.shape.senders) ∙ fit.shape.senders;
        posts = of_left InRange upto w.mail (all_right InRange w.start_posts (flat_map posts_in w.mail) fit.shape.posts);
      };
      values = fit.values;
      held = λ m v k.
          let of_posts : AllByRecursion Between posts =
          all_append Between w.start_posts (posts_in (taken_batches upto w.mail)) (all_left Between w.start_posts (flat_map posts_in w.mail) fit.pending)
          (of_taken Between upto w.mail (all_right Between w.start_posts (flat_map posts_in w.mail) fit.pending)) in
          subst (λ a. (a ≡ NOTHING) ⊎ IsBetween sys g v a) (sym (met_at o n m posts k.0)) (meet_between sys g v (small m v k) (values_for m posts) (between_at sys g piece m v k posts of_posts));
      pending = of_left Between upto w.mail (all_right Between w.start_posts (flat_map posts_in w.mail) fit.pending);
      rested = λ h. absurd (false≢true h);
      mirrors = λ m j p v k own. known_after_taking sys piece upto w m k.0 empty ∙ fit.mirrors m j p v k own;
      fresh = λ h. absurd (false≢true h);
    }
