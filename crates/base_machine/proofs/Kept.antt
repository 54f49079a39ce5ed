-- Fitness is kept by every base event.
use Rattle.std.proofs.Common.{◌≡◌, ◌≢◌, ℕ, zero, suc, ◌+◌, ◌<◌, ◌⊎◌, inl, inr, Bool, true, false, ◌&&◌, ◌||◌, ◌==◌, if◌then◌else◌, IsTrue, refl, sym, ◌∙◌, ap, subst, arith, List, [], ◌∷◌, length, slice_index, slice_index_or, slice_set, Contains, length-set, length-append}
use Rattle.std.specs.List.{AllByRecursion}
use Rattle.std.proofs.lemmas.Bool.{and_parts, eqb-true, eq-eqb, ne_eqb, cases_eq, ltb-true, false≢true}
use Rattle.std.proofs.lemmas.List.{get_or-set_same, get_or-set_other}
use Rattle.value_order.specs.Order.{Below}
use Rattle.value_order.specs.declared.TheConstants.{NOTHING}
use Rattle.value_order.proofs.Orders.{Below-refl, Below-antisym}
use Rattle.graph_core.specs.declared.fragment.Route.{Route}
use Rattle.graph_core.specs.Equations.{Assignment, IsGreatest}
use Rattle.graph_core.specs.Fragments.{Piece, piece_at, places, StandsAt, IsOwnedAt}
use Rattle.graph_core.proofs.Cutting.{stands_left, stands_right}
use Rattle.base_machine.specs.Machine.{System, BaseState, BaseTake, BaseGive, Standing, Fresh, Running, Rest, Worker, Post, worker_at, no_worker, is_fresh, rests, hand_of, pending_posts, values_for, values_given, sent_to, after_receiving, after_giving, after_taking, each_worker_from, base_after_give, base_after, is_allowed, takes_a_batch}
use Rattle.base_machine.specs.Fitness.{IsFit, IsFitWorker, IsBetween, known_at}
use Rattle.base_machine.specs.Theorems.{IsSound, FitIsKept}
use Rattle.base_machine.proofs.Meets.{meet_all-lower, meet_all-greatest}
use Rattle.base_machine.proofs.Posts.{IsPostedAbove, all_values, values_all}
use Rattle.base_machine.proofs.Taking.{taking_keeps}
use Rattle.base_machine.proofs.Giving.{ys-length, ys-below, ys-between, giving_keeps}
use Rattle.base_machine.proofs.Receiving.{posts_from_changes, changes_are_posted, of_received, received_old, received_new}

-- a worker stays fit where the owners' values of its mirrors stay
refit : (sys : System) (g : Assignment) (ws ws' : BaseState) (piece : Piece) (w : Worker) → length ws ≡ length ws' →
    ((m j p v : ℕ) → StandsAt piece.mirrors m v → IsOwnedAt sys.pieces j p v → slice_index (worker_at ws j).values p ≡ slice_index (worker_at ws' j).values p) →
    IsFitWorker sys g ws piece w → IsFitWorker sys g ws' piece w
refit sys g ws ws' piece w e same fit =
    record {
      shape = record { values = fit.shape.values; hand = fit.shape.hand; senders = fit.shape.senders ∙ e; posts = fit.shape.posts };
      values = fit.values;
      held = fit.held;
      pending = fit.pending;
      rested = fit.rested;
      mirrors = λ m j p v k own. fit.mirrors m j p v k own ∙ same m j p v k own;
      fresh = fit.fresh;
    }

-- ---- a Take

no_hand : (w : Worker) (b : Bool) → IsTrue (is_fresh w || (rests w && b)) → hand_of w ≡ []
no_hand w b h = go w.standing h
  where
    go : (s : Standing) →
        IsTrue ((elim s as (λ _. Bool) [ Fresh ↦ true | Running hand ↦ false | Rest ↦ false ]) || ((elim s as (λ _. Bool) [ Fresh ↦ false | Running hand ↦ false | Rest ↦ true ]) && b)) →
        elim s as (λ _. List ℕ) [ Fresh ↦ [] | Running hand ↦ hand | Rest ↦ [] ] ≡ []
    go Fresh h = refl
    go (Running hand) h = absurd (false≢true h)
    go Rest h = refl

module _ (sys : System) (g : Assignment) (sound : IsSound sys) (ws : BaseState) (i : ℕ) (upto : List ℕ) (fit : IsFit sys g ws) (allowed : IsTrue (is_allowed ws (BaseTake i upto))) where
  abbrev taker : Worker
  taker = after_taking sys (piece_at sys.pieces i) upto (worker_at ws i)

  abbrev taken : BaseState
  taken = slice_set ws i taker

  i_in : i < length ws
  i_in = ltb-true i (length ws) (and_parts _ _ (and_parts _ _ allowed).0).0

  counts : length upto ≡ length ws
  counts = eqb-true (length upto) (length ws) (and_parts _ _ (and_parts _ _ allowed).0).1

  at_taker : worker_at taken i ≡ taker
  at_taker = get_or-set_same ws i taker no_worker i_in

  at_other : (k : ℕ) → k ≢ i → worker_at taken k ≡ worker_at ws k
  at_other k n = get_or-set_other ws i k taker no_worker n

  values_stay : (j p : ℕ) → slice_index (worker_at ws j).values p ≡ slice_index (worker_at taken j).values p
  values_stay j p =
      elim (cases_eq j i) [
        | inl e ↦
            let P : ℕ → Type 0 = λ n. slice_index (worker_at ws n).values p ≡ slice_index (worker_at taken n).values p in
            subst P (sym e) (sym (ap (λ (w : Worker). slice_index w.values p) at_taker))
        | inr n ↦ sym (ap (λ (w : Worker). slice_index w.values p) (at_other j n))
      ]

  piece_in : i < length sys.pieces
  piece_in = let e = fit.workers in let h = i_in in omega (arith, e, h)

  small : (m v : ℕ) → StandsAt (piece_at sys.pieces i).mirrors m v → Below sys.equations.order (sys.equations.start v) NOTHING
  small m v k =
      let stands = stands_right (piece_at sys.pieces i).owned (piece_at sys.pieces i).mirrors m v k in
      let P : ℕ → Type 0 = λ n. n < sys.equations.count in
      sound.lawful.start_is_value v (subst P stands.1 (sound.cut.in_range i (length (piece_at sys.pieces i).owned + m) piece_in stands.0))

  fit_taker : IsFitWorker sys g taken (piece_at sys.pieces i) taker
  fit_taker =
      refit sys g ws taken (piece_at sys.pieces i) taker (sym (length-set ws i taker)) (λ m j p v k own. values_stay j p)
      (taking_keeps sys g ws (piece_at sys.pieces i) upto (worker_at ws i) small counts
      (no_hand (worker_at ws i) (takes_a_batch upto (worker_at ws i)) (and_parts _ _ allowed).1) (fit.each i i_in))

  fit_taken : (k : ℕ) → k < length ws → IsFitWorker sys g taken (piece_at sys.pieces k) (worker_at taken k)
  fit_taken k h =
      elim (cases_eq k i) [
        | inl e ↦
            let P : ℕ → Type 0 = λ n. IsFitWorker sys g taken (piece_at sys.pieces n) (worker_at taken n) in
            subst P (sym e) (subst (IsFitWorker sys g taken (piece_at sys.pieces i)) (sym at_taker) fit_taker)
        | inr n ↦
            subst (IsFitWorker sys g taken (piece_at sys.pieces k)) (sym (at_other k n))
            (refit sys g ws taken (piece_at sys.pieces k) (worker_at ws k) (sym (length-set ws i taker)) (λ m j p v l own. values_stay j p) (fit.each k h))
      ]

  pub take_keeps : IsFit sys g (base_after sys ws (BaseTake i upto))
  take_keeps =
      record {
        workers = length-set ws i taker ∙ fit.workers;
        each = λ k h. let P : ℕ → Type 0 = λ n. k < n in fit_taken k (subst P (length-set ws i taker) h);
      }

-- ---- a Give

pub each-length : (n : ℕ) (f : ℕ → Worker → Worker) (ws : BaseState) → length (each_worker_from n f ws) ≡ length ws
each-length n f [] = refl
each-length n f (w ∷ ws) = let k = each-length (n + 1) f ws in omega (arith, k)

pub each-at : (n : ℕ) (f : ℕ → Worker → Worker) (ws : BaseState) (k : ℕ) → k < length ws → worker_at (each_worker_from n f ws) k ≡ f (n + k) (worker_at ws k)
each-at n f [] k h = absurd (omega (arith, h))
each-at n f (w ∷ ws) zero h = let e : n ≡ n + 0 = omega arith in ap (λ q. f q w) e
each-at n f (w ∷ ws) (suc k) h =
    let e : n + 1 + k ≡ n + suc k = omega arith in
    each-at (n + 1) f ws k (omega (arith, h)) ∙ ap (λ q. f q (worker_at ws k)) e

-- what is known of a mirror after a batch came
known_lower : (sys : System) (piece : Piece) (j number m c : ℕ) (posts : List Post) (w : Worker) → j < length w.mail → Below sys.equations.order c (known_at sys piece (after_receiving j number posts w) m) →
    Below sys.equations.order c (known_at sys piece w m) × AllByRecursion (IsPostedAbove sys.equations.order m c) posts
known_lower sys piece j number m c [] w l h = (h, tt)
known_lower sys piece j number m c (p ∷ posts) w l h =
    let o = sys.equations.order in
    let w' = after_receiving j number (p ∷ posts) w in
    let a = slice_index w.values (length piece.owned + m) in
    let hand = slice_index_or (hand_of w) m NOTHING in
    let low = meet_all-lower o c a (hand ∷ values_for m (pending_posts w')) h in
    let all = values_all o m c (pending_posts w') low.1.1 in (
      meet_all-greatest o c a (hand ∷ values_for m (pending_posts w)) (low.0, (low.1.0, all_values o m c (pending_posts w) (received_old (IsPostedAbove o m c) j number (p ∷ posts) w l all))),
      received_new (IsPostedAbove o m c) j number (p ∷ posts) w l all,
    )

known_greatest : (sys : System) (piece : Piece) (j number m c : ℕ) (posts : List Post) (w : Worker) → Below sys.equations.order c (known_at sys piece w m) → AllByRecursion (IsPostedAbove sys.equations.order m c) posts →
    Below sys.equations.order c (known_at sys piece (after_receiving j number posts w) m)
known_greatest sys piece j number m c [] w h k = h
known_greatest sys piece j number m c (p ∷ posts) w h k =
    let o = sys.equations.order in
    let w' = after_receiving j number (p ∷ posts) w in
    let a = slice_index w.values (length piece.owned + m) in
    let hand = slice_index_or (hand_of w) m NOTHING in
    let low = meet_all-lower o c a (hand ∷ values_for m (pending_posts w)) h in
    meet_all-greatest o c a (hand ∷ values_for m (pending_posts w'))
    (low.0, (low.1.0, all_values o m c (pending_posts w') (of_received (IsPostedAbove o m c) j number (p ∷ posts) w (values_all o m c (pending_posts w) low.1.1) k)))

-- the parts of a receiver's fitness that its mail does not touch
receiver_fit : (sys : System) (g : Assignment) (ws ws' : BaseState) (piece : Piece) (j number : ℕ) (posts : List Post) (w : Worker) → length ws ≡ length ws' → IsFitWorker sys g ws piece w →
    AllByRecursion (λ p. p.mirror < length piece.mirrors) (pending_posts (after_receiving j number posts w)) →
    AllByRecursion (λ p. (v : ℕ) → StandsAt piece.mirrors p.mirror v → IsBetween sys g v p.value) (pending_posts (after_receiving j number posts w)) →
    ((m k q u : ℕ) → StandsAt piece.mirrors m u → IsOwnedAt sys.pieces k q u → known_at sys piece (after_receiving j number posts w) m ≡ slice_index (worker_at ws' k).values q) →
    IsFitWorker sys g ws' piece (after_receiving j number posts w)
receiver_fit sys g ws ws' piece j number [] w e fit r b known =
    record {
      shape = record { values = fit.shape.values; hand = fit.shape.hand; senders = fit.shape.senders ∙ e; posts = r };
      values = fit.values;
      held = fit.held;
      pending = b;
      rested = fit.rested;
      mirrors = known;
      fresh = fit.fresh;
    }
receiver_fit sys g ws ws' piece j number (p ∷ posts) w e fit r b known =
    record {
      shape = record { values = fit.shape.values; hand = fit.shape.hand; senders = length-set w.mail j _ ∙ (fit.shape.senders ∙ e); posts = r };
      values = fit.values;
      held = fit.held;
      pending = b;
      rested = fit.rested;
      mirrors = known;
      fresh = fit.fresh;
    }

module _ (sys : System) (g : Assignment) (sound : IsSound sys) (greatest : IsGreatest sys.equations g) (ws : BaseState) (i : ℕ) (fit : IsFit sys g ws) (in_ws : i < length ws) where
  abbrev from : Piece
  from = piece_at sys.pieces i

  abbrev giver : Worker
  giver = worker_at ws i

  abbrev given : BaseState
  given = base_after_give sys i from giver ws

  abbrev changed : ℕ → Worker → Worker
  changed k w = if k == i then after_giving sys from w else after_receiving i (giver.gives + 1) (sent_to sys from giver k) w

  in_pieces : i < length sys.pieces
  in_pieces = let e = fit.workers in let h = in_ws in omega (arith, e, h)

  at_given : (k : ℕ) → k < length ws → worker_at given k ≡ changed k (worker_at ws k)
  at_given k h = let e : 0 + k ≡ k = omega arith in each-at 0 changed ws k h ∙ ap (λ q. changed q (worker_at ws k)) e

  at_giver : worker_at given i ≡ after_giving sys from giver
  at_giver = at_given i in_ws ∙ ap (λ b. if b then after_giving sys from giver else after_receiving i (giver.gives + 1) (sent_to sys from giver i) giver) (eq-eqb i i refl)

  at_receiver : (k : ℕ) → k < length ws → k ≢ i → worker_at given k ≡ after_receiving i (giver.gives + 1) (sent_to sys from giver k) (worker_at ws k)
  at_receiver k h n = at_given k h ∙ ap (λ b. if b then after_giving sys from (worker_at ws k) else after_receiving i (giver.gives + 1) (sent_to sys from giver k) (worker_at ws k)) (ne_eqb k i n)

  received_values : (posts : List Post) (w : Worker) → (after_receiving i (giver.gives + 1) posts w).values ≡ w.values
  received_values [] w = refl
  received_values (p ∷ posts) w = refl

  others_stay : (j p v : ℕ) → IsOwnedAt sys.pieces j p v → j ≢ i → slice_index (worker_at ws j).values p ≡ slice_index (worker_at given j).values p
  others_stay j p v own n =
      let h : j < length ws = let e = fit.workers in let l = own.0 in omega (arith, e, l) in
      sym (ap (λ (w : Worker). slice_index w.values p) (at_receiver j h n) ∙ ap (λ l. slice_index l p) (received_values (sent_to sys from giver j) (worker_at ws j)))

  giver_has : (p : ℕ) → slice_index (worker_at given i).values p ≡ slice_index (values_given sys from giver) p
  giver_has p = ap (λ (w : Worker). slice_index w.values p) at_giver

  same_count : length ws ≡ length given
  same_count = sym (each-length 0 changed ws)

  fit_giver : IsFitWorker sys g given from (after_giving sys from giver)
  fit_giver =
      refit sys g ws given from (after_giving sys from giver) same_count
      (λ m j p v k own. others_stay j p v own
      (λ e.
      let P : ℕ → Type 0 = λ n. IsOwnedAt sys.pieces n p v in
      let here : IsOwnedAt sys.pieces i p v = subst P e own in
      let same = sound.cut.apart i p (length from.owned + m) v (stands_left from.owned from.mirrors p v here.1) (stands_right from.owned from.mirrors m v k) in
      let l = here.1.0 in
      omega (arith, same, l)))
      (giving_keeps sys g sound greatest i in_pieces ws giver (fit.each i in_ws))

  abbrev old : List ℕ
  old = giver.values

  abbrev new : List ℕ
  new = values_given sys from giver

  route_count : length from.routes ≡ length from.owned
  route_count = sound.cut.routes_len i in_pieces

  old_count : length old ≡ length from.owned + length from.mirrors
  old_count = (fit.each i in_ws).shape.values ∙ length-append from.owned from.mirrors

  new_count : length new ≡ length from.owned + length from.mirrors
  new_count = ys-length sys g sound greatest i in_pieces ws giver (fit.each i in_ws) ∙ old_count

  -- a route of an owned place leads to a mirror of its vertex
  abbrev owned_at : ℕ → ℕ
  owned_at p = slice_index from.owned p

  own_place : (p : ℕ) → p < length from.routes → IsOwnedAt sys.pieces i p (owned_at p)
  own_place p h = (in_pieces, ((let e = route_count in omega (arith, e, h)), refl))

  own_stands : (p : ℕ) → p < length from.routes → StandsAt (places from) p (owned_at p)
  own_stands p h = stands_left from.owned from.mirrors p (owned_at p) (own_place p h).1

  leads_to : (k p : ℕ) (t : Route) → p < length from.routes → Contains (slice_index_or from.routes p []) t → t.fragment ≡ k → StandsAt (piece_at sys.pieces k).mirrors t.mirror (owned_at p)
  leads_to k p t h c e =
      let P : ℕ → Type 0 = λ n. StandsAt (piece_at sys.pieces n).mirrors t.mirror (owned_at p) in
      subst P e ((sound.cut.routes i p (owned_at p) t.fragment t.mirror (own_place p h)).0 c).1

  -- two vertices at one mirror are the same
  one_vertex : (k m m' u v : ℕ) → m' ≡ m → StandsAt (piece_at sys.pieces k).mirrors m u → StandsAt (piece_at sys.pieces k).mirrors m' v → v ≡ u
  one_vertex k m m' u v e h h' = sym h'.1 ∙ (ap (λ q. slice_index (piece_at sys.pieces k).mirrors q) e ∙ h.1)

  lower : (p v : ℕ) → StandsAt (places from) p v → Below sys.equations.order (slice_index new p) (slice_index old p)
  lower p v h = ys-below sys g sound greatest i in_pieces ws giver (fit.each i in_ws) p v h

  has_queue : (k : ℕ) → k < length ws → i < length (worker_at ws k).mail
  has_queue k h = let e = (fit.each k h).shape.senders in let l = in_ws in omega (arith, e, l)

  -- after the Give a receiver knows the giver's new value
  known_of_giver : (k m q u : ℕ) → k < length ws → StandsAt (piece_at sys.pieces k).mirrors m u → IsOwnedAt sys.pieces i q u →
      known_at sys (piece_at sys.pieces k) (after_receiving i (giver.gives + 1) (sent_to sys from giver k) (worker_at ws k)) m ≡ slice_index new q
  known_of_giver k m q u h st own =
      let o = sys.equations.order in
      let piece = piece_at sys.pieces k in
      let w = worker_at ws k in
      let posts = sent_to sys from giver k in
      let t = known_at sys piece (after_receiving i (giver.gives + 1) posts w) m in
      let b = slice_index new q in
      let before : known_at sys piece w m ≡ slice_index old q = (fit.each k h).mirrors m i q u st own in
      let k_in : k < length sys.pieces = let e = fit.workers in omega (arith, e, h) in
      let q_in : q < length from.routes = let e = route_count in let l = own.1.0 in omega (arith, e, l) in
      let low = known_lower sys piece i (giver.gives + 1) m t posts w (has_queue k h) (Below-refl o t) in
      let down : Below o t b =
      elim (cases_eq (slice_index old q) b) [
        | inl e ↦ subst (Below o t) (before ∙ e) low.0
        | inr n ↦
            changes_are_posted (IsPostedAbove o m t) k old new from.routes
            (let e = route_count in let f = old_count in omega (arith, e, f)) (let e = route_count in let f = new_count in omega (arith, e, f)) low.1
            q (record { fragment = k; mirror = m }) q_in ((sound.cut.routes i q u k m own).1 (k_in, st)) refl n refl
      ] in
      let up : Below o b t =
      known_greatest sys piece i (giver.gives + 1) m b posts w
      (subst (Below o b) (sym before) (lower q u (stands_left from.owned from.mirrors q u own.1)))
      (posts_from_changes (IsPostedAbove o m b) k old new from.routes
      (λ p r l c e mm.
      let same = one_vertex k m r.mirror u (owned_at p) mm st (leads_to k p r l c e) in
      let there : IsOwnedAt sys.pieces i p u = subst (IsOwnedAt sys.pieces i p) same (own_place p l) in
      let place = (sound.cut.owned_once i p i q u there own).1 in
      subst (λ a. Below o b (slice_index new a)) (sym place) (Below-refl o b))) in
      Below-antisym o t b down up

  -- of another owner's vertex it knows what it knew
  known_of_other : (k m j q u : ℕ) → k < length ws → StandsAt (piece_at sys.pieces k).mirrors m u → IsOwnedAt sys.pieces j q u → j ≢ i →
      known_at sys (piece_at sys.pieces k) (after_receiving i (giver.gives + 1) (sent_to sys from giver k) (worker_at ws k)) m ≡ slice_index (worker_at ws j).values q
  known_of_other k m j q u h st own n =
      let o = sys.equations.order in
      let piece = piece_at sys.pieces k in
      let w = worker_at ws k in
      let posts = sent_to sys from giver k in
      let t = known_at sys piece (after_receiving i (giver.gives + 1) posts w) m in
      let b = slice_index (worker_at ws j).values q in
      let before : known_at sys piece w m ≡ b = (fit.each k h).mirrors m j q u st own in
      let low = known_lower sys piece i (giver.gives + 1) m t posts w (has_queue k h) (Below-refl o t) in
      let up : Below o b t =
      known_greatest sys piece i (giver.gives + 1) m b posts w (subst (Below o b) (sym before) (Below-refl o b))
      (posts_from_changes (IsPostedAbove o m b) k old new from.routes
      (λ p r l c e mm.
      let same = one_vertex k m r.mirror u (owned_at p) mm st (leads_to k p r l c e) in
      let there : IsOwnedAt sys.pieces i p u = subst (IsOwnedAt sys.pieces i p) same (own_place p l) in
      absurd (n (sym (sound.cut.owned_once i p j q u there own).0)))) in
      Below-antisym o t b (subst (Below o t) before low.0) up

  fit_receiver : (k : ℕ) → k < length ws → k ≢ i → IsFitWorker sys g given (piece_at sys.pieces k) (after_receiving i (giver.gives + 1) (sent_to sys from giver k) (worker_at ws k))
  fit_receiver k h n =
      receiver_fit sys g ws given piece i number posts w same_count (fit.each k h)
      (of_received (λ p. p.mirror < length piece.mirrors) i number posts w (fit.each k h).shape.posts
      (posts_from_changes (λ p. p.mirror < length piece.mirrors) k old new from.routes (λ p t l c e. (leads_to k p t l c e).0)))
      (of_received (λ p. (v : ℕ) → StandsAt piece.mirrors p.mirror v → IsBetween sys g v p.value) i number posts w (fit.each k h).pending
      (posts_from_changes (λ p. (v : ℕ) → StandsAt piece.mirrors p.mirror v → IsBetween sys g v p.value) k old new from.routes
      (λ p t l c e v st.
      let same = one_vertex k t.mirror t.mirror v (owned_at p) refl st (leads_to k p t l c e) in
      subst (λ u. IsBetween sys g u (slice_index new p)) same
      (ys-between sys g sound greatest i in_pieces ws giver (fit.each i in_ws) p (owned_at p) (own_stands p l)))))
      (λ m j q u st own. known m j q u st own (cases_eq j i))
    where
      piece : Piece
      piece = piece_at sys.pieces k

      w : Worker
      w = worker_at ws k

      number : ℕ
      number = giver.gives + 1

      posts : List Post
      posts = sent_to sys from giver k

      known : (m j q u : ℕ) → StandsAt (piece_at sys.pieces k).mirrors m u → IsOwnedAt sys.pieces j q u → (j ≡ i) ⊎ (j ≡ i → ⊥) →
          known_at sys (piece_at sys.pieces k) (after_receiving i (giver.gives + 1) (sent_to sys from giver k) (worker_at ws k)) m ≡ slice_index (worker_at given j).values q
      known m j q u st own (inl e) =
          let P : ℕ → Type 0 = λ a. IsOwnedAt sys.pieces a q u in
          let V : ℕ → Type 0 = λ a. slice_index new q ≡ slice_index (worker_at given a).values q in
          known_of_giver k m q u h st (subst P e own) ∙ subst V (sym e) (sym (giver_has q))
      known m j q u st own (inr d) = known_of_other k m j q u h st own d ∙ others_stay j q u own d

  pub give_keeps : IsFit sys g (base_after sys ws (BaseGive i))
  give_keeps =
      record {
        workers = sym same_count ∙ fit.workers;
        each = λ k h. let P : ℕ → Type 0 = λ n. k < n in at k (subst P (sym same_count) h) (cases_eq k i);
      }
    where
      at : (k : ℕ) → k < length ws → (k ≡ i) ⊎ (k ≡ i → ⊥) → IsFitWorker sys g given (piece_at sys.pieces k) (worker_at given k)
      at k h (inl e) =
          let P : ℕ → Type 0 = λ n. IsFitWorker sys g given (piece_at sys.pieces n) (worker_at given n) in
          subst P (sym e) (subst (IsFitWorker sys g given from) (sym at_giver) fit_giver)
      at k h (inr n) = subst (IsFitWorker sys g given (piece_at sys.pieces k)) (sym (at_receiver k h n)) (fit_receiver k h n)

pub fit_is_kept : FitIsKept
fit_is_kept sys g sound greatest ws (BaseTake i upto) fit allowed = take_keeps sys g sound ws i upto fit allowed
fit_is_kept sys g sound greatest ws (BaseGive i) fit allowed = give_keeps sys g sound greatest ws i fit (ltb-true i (length ws) (and_parts _ _ allowed).0)
