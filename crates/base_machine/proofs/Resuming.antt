-- The snapshot of a fit state in which nobody runs is a fit start.
use Rattle.std.proofs.Common.{◌≡◌, ◌≢◌, ℕ, zero, suc, ◌+◌, ◌<◌, ◌⊎◌, inl, inr, Bool, true, false, ◌==◌, if◌then◌else◌, refl, sym, ◌∙◌, ap, subst, arith, List, [], ◌∷◌, length, flat_map, slice_index, slice_index_or, replicate}
use Rattle.std.specs.List.{AllByRecursion}
use Rattle.std.proofs.lemmas.Bool.{false≢true, eqb-true, eqb-false}
use Rattle.std.proofs.lemmas.List.{length-map, get_or-map, length-replicate}
use Rattle.std.proofs.lemmas.List.FromFn.{length-map-range_with_len}
use Rattle.value_order.specs.Order.{Below, meet_all}
use Rattle.value_order.specs.declared.TheConstants.{NOTHING}
use Rattle.graph_core.specs.Equations.{Assignment}
use Rattle.graph_core.specs.Fragments.{Piece, piece_at, StandsAt, IsOwnedAt}
use Rattle.graph_core.proofs.Cutting.{stands_right}
use Rattle.token_cut.specs.Parts.{PartValues}
use Rattle.token_cut.specs.declared.phase.Phase.TheVariants.{Fresh as FreshPhase, Rest as RestPhase}
use Rattle.base_machine.specs.Machine.{System, BaseState, Worker, Post, Fresh, Running, Rest, worker_at, no_worker, is_fresh, is_running, rests, hand_of, pending_posts, posts_in, posts_from, values_for, met_posts, standing_of, worker_of, base_state_of, part_of, parts_from, snapshot_of}
use Rattle.base_machine.specs.Fitness.{IsFitWorker, IsBetween, known_at}
use Rattle.base_machine.specs.Theorems.{IsSound, SnapshotIsFit}
use Rattle.base_machine.proofs.Meets.{meet_all-lower, meet_all-greatest, meet_all-same}
use Rattle.base_machine.proofs.Posts.{all_append, all_left, IsPostedAbove, all_values, values_all, no_queued}
use Rattle.base_machine.proofs.Taking.{met_at, between_at, meet_between}

-- ---- the posts of mail

posts_all : (P : Post → Type 0) (a : ℕ) (xs : List ℕ) → ((j : ℕ) → j < length xs → slice_index_or xs j NOTHING ≢ NOTHING → P (record { mirror = a + j; value = slice_index_or xs j NOTHING })) → AllByRecursion P (posts_from a xs)
posts_all P a [] h = tt
posts_all P a (x ∷ xs) h =
    go
    (posts_all P (a + 1) xs (λ j l n. let e : a + suc j ≡ a + 1 + j = omega arith in subst (λ m. P (record { mirror = m; value = slice_index_or xs j NOTHING })) e (h (suc j) (omega (arith, l)) n)))
    (x == NOTHING) refl
  where
    go : AllByRecursion P (posts_from (a + 1) xs) → (b : Bool) → (x == NOTHING) ≡ b → AllByRecursion P (if b then posts_from (a + 1) xs else record { mirror = a; value = x } ∷ posts_from (a + 1) xs)
    go rest true e = rest
    go rest false e = let z : a + 0 ≡ a = omega arith in (subst (λ m. P (record { mirror = m; value = x })) z (h 0 (omega arith) (eqb-false x NOTHING e)), rest)

posts_at : (P : Post → Type 0) (a : ℕ) (xs : List ℕ) → AllByRecursion P (posts_from a xs) → (j : ℕ) → j < length xs → (slice_index_or xs j NOTHING ≡ NOTHING) ⊎ P (record { mirror = a + j; value = slice_index_or xs j NOTHING })
posts_at P a [] h j l = absurd (omega (arith, l))
posts_at P a (x ∷ xs) h j l = go j l (x == NOTHING) refl h (λ k q m. posts_at P (a + 1) xs k q m)
  where
    go : (j : ℕ) → j < suc (length xs) → (b : Bool) → (x == NOTHING) ≡ b → AllByRecursion P (if b then posts_from (a + 1) xs else record { mirror = a; value = x } ∷ posts_from (a + 1) xs) →
        (AllByRecursion P (posts_from (a + 1) xs) → (q : ℕ) → q < length xs → (slice_index_or xs q NOTHING ≡ NOTHING) ⊎ P (record { mirror = a + 1 + q; value = slice_index_or xs q NOTHING })) →
        (slice_index_or (x ∷ xs) j NOTHING ≡ NOTHING) ⊎ P (record { mirror = a + j; value = slice_index_or (x ∷ xs) j NOTHING })
    go zero l true e k again = inl (eqb-true x NOTHING e)
    go zero l false e k again = let z : a ≡ a + 0 = omega arith in inr (subst (λ m. P (record { mirror = m; value = x })) z k.0)
    go (suc j) l true e k again = later j (again k j (omega (arith, l)))
      where
        later : (j : ℕ) → (slice_index_or xs j NOTHING ≡ NOTHING) ⊎ P (record { mirror = a + 1 + j; value = slice_index_or xs j NOTHING }) → (slice_index_or xs j NOTHING ≡ NOTHING) ⊎ P (record { mirror = a + suc j; value = slice_index_or xs j NOTHING })
        later j (inl q) = inl q
        later j (inr q) = let z : a + 1 + j ≡ a + suc j = omega arith in inr (subst (λ m. P (record { mirror = m; value = slice_index_or xs j NOTHING })) z q)
    go (suc j) l false e k again = later j (again k.1 j (omega (arith, l)))
      where
        later : (j : ℕ) → (slice_index_or xs j NOTHING ≡ NOTHING) ⊎ P (record { mirror = a + 1 + j; value = slice_index_or xs j NOTHING }) → (slice_index_or xs j NOTHING ≡ NOTHING) ⊎ P (record { mirror = a + suc j; value = slice_index_or xs j NOTHING })
        later j (inl q) = inl q
        later j (inr q) = let z : a + 1 + j ≡ a + suc j = omega arith in inr (subst (λ m. P (record { mirror = m; value = slice_index_or xs j NOTHING })) z q)

-- ---- parts

parts-length : (sys : System) (a : ℕ) (ws : BaseState) → length (parts_from sys a ws) ≡ length ws
parts-length sys a [] = refl
parts-length sys a (w ∷ ws) = let k = parts-length sys (a + 1) ws in omega (arith, k)

parts-at : (sys : System) (a : ℕ) (ws : BaseState) (i : ℕ) (d : PartValues) → i < length ws → slice_index_or (parts_from sys a ws) i d ≡ part_of sys (piece_at sys.pieces (a + i)) (worker_at ws i)
parts-at sys a [] i d h = absurd (omega (arith, h))
parts-at sys a (w ∷ ws) zero d h = let z : a ≡ a + 0 = omega arith in ap (λ q. part_of sys (piece_at sys.pieces q) w) z
parts-at sys a (w ∷ ws) (suc i) d h =
    let z : a + 1 + i ≡ a + suc i = omega arith in
    parts-at sys (a + 1) ws i d (omega (arith, h)) ∙ ap (λ q. part_of sys (piece_at sys.pieces q) (worker_at ws i)) z

-- ---- one worker

at_rest : (w : Worker) → is_running w ≡ false → hand_of w ≡ []
at_rest w h =
    elim w.standing as (λ x. elim x as (λ _. Bool) [ Fresh ↦ false | Running hand ↦ true | Rest ↦ false ] ≡ false → elim x as (λ _. List ℕ) [ Fresh ↦ [] | Running hand ↦ hand | Rest ↦ [] ] ≡ []) [
      | Fresh ↦ λ a. refl
      | Running hand ↦ λ a. absurd (false≢true (sym a))
      | Rest ↦ λ a. refl
    ] h

rests_else : (w : Worker) → is_running w ≡ false → is_fresh w ≡ false → rests w ≡ true
rests_else w h k =
    elim w.standing as (λ x. elim x as (λ _. Bool) [ Fresh ↦ false | Running hand ↦ true | Rest ↦ false ] ≡ false → elim x as (λ _. Bool) [ Fresh ↦ true | Running hand ↦ false | Rest ↦ false ] ≡ false →
    elim x as (λ _. Bool) [ Fresh ↦ false | Running hand ↦ false | Rest ↦ true ] ≡ true) [
      | Fresh ↦ λ a b. absurd (false≢true (sym b))
      | Running hand ↦ λ a b. absurd (false≢true (sym a))
      | Rest ↦ λ a b. refl
    ] h k

module _ (sys : System) (sound : IsSound sys) (n : ℕ) (piece : Piece) (w : Worker) (calm : is_running w ≡ false) where
  abbrev resumed : Worker
  resumed = worker_of n (part_of sys piece w)

  abbrev mail : List ℕ
  mail = met_posts sys.equations.order (length piece.mirrors) (pending_posts w)

  mail-length : length mail ≡ length piece.mirrors
  mail-length = length-map-range_with_len (λ m. meet_all sys.equations.order NOTHING (values_for m (pending_posts w))) 0 (length piece.mirrors)

  no_hand : hand_of resumed ≡ []
  no_hand = go (is_fresh w)
    where
      go : (b : Bool) → hand_of (record { standing = standing_of (if b then FreshPhase else RestPhase); values = w.values; gives = 0; start_posts = posts_from 0 mail; mail = replicate n [] }) ≡ []
      go true = refl
      go false = refl

  was_fresh : is_fresh resumed ≡ true → is_fresh w ≡ true
  was_fresh = go (is_fresh w)
    where
      go : (b : Bool) → is_fresh (record { standing = standing_of (if b then FreshPhase else RestPhase); values = w.values; gives = 0; start_posts = posts_from 0 mail; mail = replicate n [] }) ≡ true → b ≡ true
      go true h = refl
      go false h = absurd (false≢true h)

  not_fresh : rests resumed ≡ true → is_fresh w ≡ false
  not_fresh = go (is_fresh w)
    where
      go : (b : Bool) → rests (record { standing = standing_of (if b then FreshPhase else RestPhase); values = w.values; gives = 0; start_posts = posts_from 0 mail; mail = replicate n [] }) ≡ true → b ≡ false
      go true h = absurd (false≢true h)
      go false h = refl

  -- what holds of all that is posted again
  all_pending : (P : Post → Type 0) → ((j : ℕ) → j < length piece.mirrors → slice_index_or mail j NOTHING ≢ NOTHING → P (record { mirror = j; value = slice_index_or mail j NOTHING })) → AllByRecursion P (pending_posts resumed)
  all_pending P h =
      all_append P (posts_from 0 mail) (flat_map posts_in (replicate n []))
      (posts_all P 0 mail (λ j l d. let len = mail-length in let e : j ≡ 0 + j = omega arith in subst (λ m. P (record { mirror = m; value = slice_index_or mail j NOTHING })) e (h j (omega (arith, l, len)) d)))
      (subst (AllByRecursion P) (sym (no_queued n)) tt)

  mail_at : (m : ℕ) → m < length piece.mirrors → slice_index_or mail m NOTHING ≡ meet_all sys.equations.order NOTHING (values_for m (pending_posts w))
  mail_at m h = met_at sys.equations.order (length piece.mirrors) m (pending_posts w) h

  -- a resumed worker knows what the worker knew
  known_resumed : (m : ℕ) → m < length piece.mirrors → known_at sys piece resumed m ≡ known_at sys piece w m
  known_resumed m h =
      let o = sys.equations.order in
      let a = slice_index w.values (length piece.owned + m) in
      let hand : slice_index_or (hand_of resumed) m NOTHING ≡ NOTHING = ap (λ l. slice_index_or l m NOTHING) no_hand in
      let hand' : slice_index_or (hand_of w) m NOTHING ≡ NOTHING = ap (λ l. slice_index_or l m NOTHING) (at_rest w calm) in
      let x = slice_index_or mail m NOTHING in
      meet_all-same o a (slice_index_or (hand_of resumed) m NOTHING ∷ values_for m (pending_posts resumed)) a (slice_index_or (hand_of w) m NOTHING ∷ values_for m (pending_posts w))
      (λ c k.
      let Q = IsPostedAbove o m c in
      let top : Below o c NOTHING = subst (Below o c) hand k.1.0 in
      let posted = all_left Q (posts_from 0 mail) (flat_map posts_in (replicate n [])) (values_all o m c (pending_posts resumed) k.1.1) in
      let len = mail-length in
      let low : Below o c x = elim (posts_at Q 0 mail posted m (omega (arith, h, len))) [
        | inl e ↦ subst (Below o c) (sym e) top
        | inr q ↦ q (omega arith)
      ] in
      (k.0, (subst (Below o c) (sym hand') top, (meet_all-lower o c NOTHING (values_for m (pending_posts w)) (subst (Below o c) (mail_at m h) low)).1)))
      (λ c k.
      let Q = IsPostedAbove o m c in
      let top : Below o c NOTHING = subst (Below o c) hand' k.1.0 in
      let low : Below o c x = subst (Below o c) (sym (mail_at m h)) (meet_all-greatest o c NOTHING (values_for m (pending_posts w)) (top, k.1.1)) in
      (k.0, (subst (Below o c) (sym hand) top, all_values o m c (pending_posts resumed) (all_pending Q (λ j l d e. subst (λ q. Below o c (slice_index_or mail q NOTHING)) (sym e) low)))))

  fit_resumed : (g : Assignment) (ws ws' : BaseState) → ((m v : ℕ) → StandsAt piece.mirrors m v → Below sys.equations.order (sys.equations.start v) NOTHING) → length ws' ≡ n →
      ((j p v : ℕ) → IsOwnedAt sys.pieces j p v → slice_index (worker_at ws j).values p ≡ slice_index (worker_at ws' j).values p) → IsFitWorker sys g ws piece w → IsFitWorker sys g ws' piece resumed
  fit_resumed g ws ws' small count same fit =
      record {
        shape = record {
          values = fit.shape.values;
          hand = let e = ap {B = ℕ} (λ l. length l) no_hand in omega (arith, e);
          senders = length-replicate n [] ∙ sym count;
          posts = all_pending (λ p. p.mirror < length piece.mirrors) (λ j l d. l);
        };
        values = fit.values;
        held = λ m v st. inl (ap (λ l. slice_index_or l m NOTHING) no_hand);
        pending = all_pending (λ p. (v : ℕ) → StandsAt piece.mirrors p.mirror v → IsBetween sys g v p.value)
            (λ j l d v st.
            elim (meet_between sys g v (small j v st) (values_for j (pending_posts w)) (between_at sys g piece j v st (pending_posts w) fit.pending)) [
              | inl e ↦ absurd (d (mail_at j l ∙ e))
              | inr b ↦ subst (IsBetween sys g v) (sym (mail_at j l)) b
            ]);
        rested = λ h. fit.rested (rests_else w calm (not_fresh h));
        mirrors = λ m j p v st own. known_resumed m st.0 ∙ (fit.mirrors m j p v st own ∙ same j p v own);
        fresh = λ h. fit.fresh (was_fresh h);
      }

pub snapshot_is_fit : SnapshotIsFit
snapshot_is_fit sys g sound greatest ws epoch fit calm =
    let parts = parts_from sys 0 ws in
    let n = length parts in
    let ws' = base_state_of (snapshot_of sys ws epoch) in
    let count = parts-length sys 0 ws in
    let len : length ws' ≡ n = length-map parts (worker_of n) in
    let none : PartValues = record { phase = RestPhase; values = []; mail = [] } in
    let at : (i : ℕ) → i < length ws → worker_at ws' i ≡ worker_of n (part_of sys (piece_at sys.pieces i) (worker_at ws i)) =
    λ i h. let z : 0 + i ≡ i = omega arith in
    get_or-map (worker_of n) parts i none no_worker (omega (arith, h, count)) ∙ (ap (worker_of n) (parts-at sys 0 ws i none h) ∙ ap (λ q. worker_of n (part_of sys (piece_at sys.pieces q) (worker_at ws i))) z) in
    record {
      workers = len ∙ (count ∙ fit.workers);
      each = λ i h.
          let i_in : i < length ws = omega (arith, h, len, count) in
          let e = fit.workers in
          let in_pieces : i < length sys.pieces = omega (arith, i_in, e) in
          subst (IsFitWorker sys g ws' (piece_at sys.pieces i)) (sym (at i i_in))
          (fit_resumed sys sound n (piece_at sys.pieces i) (worker_at ws i) (calm i i_in) g ws ws'
          (λ m v st.
          let stands = stands_right (piece_at sys.pieces i).owned (piece_at sys.pieces i).mirrors m v st in
          let P : ℕ → Type 0 = λ x. x < sys.equations.count in
          sound.lawful.start_is_value v (subst P stands.1 (sound.cut.in_range i (length (piece_at sys.pieces i).owned + m) in_pieces stands.0)))
          len
          (λ j p v own. let l = own.0 in ap (λ (x : Worker). slice_index x.values p) (sym (at j (omega (arith, l, e)))))
          (fit.each i i_in));
    }
