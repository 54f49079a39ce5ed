-- A run keeps values and mail below the start.
use Rattle.std.proofs.Common.{◌≡◌, ℕ, zero, suc, ◌+◌, ◌-◌, ◌<◌, ◌⊎◌, inl, inr, Bool, true, false, ◌==◌, if◌then◌else◌, IsTrue, refl, sym, ◌∙◌, ap, subst, arith, List, [], ◌∷◌, length, map, take, drop, flat_map, slice_index, replicate}
use Rattle.std.specs.List.{AllZip, AllByRecursion, range_with_len}
use Rattle.std.proofs.lemmas.Bool.{false≢true, eqb-true, eq-eqb, cases_lt}
use Rattle.std.proofs.lemmas.List.{length-map, get_or-map, get_or_append_left, get_or-append_right, get_or-take, get_or-drop}
use Rattle.value_order.specs.declared.order.Order.{Order}
use Rattle.value_order.specs.Order.{Below, meet_all}
use Rattle.value_order.specs.declared.TheConstants.{NOTHING}
use Rattle.value_order.proofs.Orders.{Below-refl, Below-trans, meet-below_left}
use Rattle.graph_core.specs.Fragments.{Piece, piece_at, places, StandsAt, IsOwnedAt}
use Rattle.graph_core.proofs.Cutting.{stands_left}
use Rattle.token_cut.specs.Parts.{PartValues, SnapshotParts}
use Rattle.token_cut.specs.declared.phase.Phase.{Phase}
use Rattle.token_cut.specs.declared.phase.Phase.TheVariants.{Fresh as FreshPhase, Rest as RestPhase}
use Rattle.pie_core.specs.Solutions.{lowered, met, starts_of}
use Rattle.base_machine.specs.Machine.{System, BaseState, BaseEvent, BaseTake, BaseGive, Worker, Post, worker_at, is_fresh, hand_of, pending_posts, posts_in, posts_from, values_for, standing_of, worker_of, base_state_of, after_taking, after_giving, after_receiving, values_given, sent_to, base_after, is_allowed, part_of, parts_from}
use Rattle.base_machine.specs.Runs.{Runs}
use Rattle.base_machine.specs.Fitness.{IsInForm, IsPartInForm}
use Rattle.base_machine.specs.Theorems.{IsSound, FormIsKept}
use Rattle.base_machine.proofs.Meets.{meet_all-lower}
use Rattle.base_machine.proofs.Posts.{all_append, all_left, all_right, all_values_of, all_since, of_left, of_added, no_queued}
use Rattle.base_machine.proofs.Receiving.{posts_from_changes}
use Rattle.base_machine.proofs.Giving.{below_at, below_from, below-length}
use Rattle.base_machine.proofs.Swapping.{after-length, after-at, allowed_in_range}
use Rattle.base_machine.proofs.Bounded.{solution, front, new-length, start_lengths}

-- a post lies below the start of each vertex at its mirror
abbrev IsPostInForm : System → Piece → Post → Type 0
IsPostInForm sys piece p = (v : ℕ) → StandsAt piece.mirrors p.mirror v → Below sys.equations.order p.value (sys.equations.start v)

record IsFormedWorker (sys : System) (piece : Piece) (w : Worker) : Type 0 where
  whole : length w.values ≡ length (places piece)
  values : (p v : ℕ) → StandsAt (places piece) p v → Below sys.equations.order (slice_index w.values p) (sys.equations.start v)
  fresh : IsTrue (is_fresh w) → w.values ≡ starts_of sys.equations (places piece)
  pending : AllByRecursion (IsPostInForm sys piece) (pending_posts w)

record IsFormed (sys : System) (ws : BaseState) : Type 0 where
  count : length sys.pieces ≡ length ws
  each : (i : ℕ) → i < length ws → IsFormedWorker sys (piece_at sys.pieces i) (worker_at ws i)

-- ---- a Take

taken : (sys : System) (piece from : Piece) (upto : List ℕ) (w : Worker) → IsFormedWorker sys piece w → IsFormedWorker sys piece (after_taking sys from upto w)
taken sys piece from upto w f =
    record {
      whole = f.whole;
      values = f.values;
      fresh = λ h. absurd (false≢true h);
      pending = of_left (IsPostInForm sys piece) upto w.mail (all_right (IsPostInForm sys piece) w.start_posts (flat_map posts_in w.mail) f.pending);
    }

-- ---- a Give

met-below : (o : Order) (xs hand : List ℕ) (m : ℕ) → Below o (slice_index (met o xs hand) m) (slice_index xs m)
met-below o [] hand m = Below-refl o (slice_index (met o [] hand) m)
met-below o (x ∷ xs) [] m = Below-refl o (slice_index (x ∷ xs) m)
met-below o (x ∷ xs) (a ∷ hand) zero = meet-below_left o x a
met-below o (x ∷ xs) (a ∷ hand) (suc m) = met-below o xs hand m

module _ (sys : System) (sound : IsSound sys) (i : ℕ) (i_in : i < length sys.pieces) (w : Worker) (f : IsFormedWorker sys (piece_at sys.pieces i) w) where
  abbrev from : Piece
  from = piece_at sys.pieces i

  abbrev size : ℕ
  size = length from.owned

  abbrev new : List ℕ
  new = values_given sys from w

  lowered_below : (p : ℕ) → Below sys.equations.order (slice_index (lowered sys.equations from.owned w.values (hand_of w)) p) (slice_index w.values p)
  lowered_below p = elim (cases_lt p size) [
    | inl h ↦
        let k = front sys sound i i_in w f.whole in
        let e = get_or_append_left (take size w.values) (met sys.equations.order (drop size w.values) (hand_of w)) 0 p (omega (arith, k, h)) ∙ get_or-take size w.values p 0 h in
        subst (λ a. Below sys.equations.order a (slice_index w.values p)) (sym e) (Below-refl sys.equations.order (slice_index w.values p))
    | inr h ↦
        let k = front sys sound i i_in w f.whole in
        let e = get_or-append_right (take size w.values) (met sys.equations.order (drop size w.values) (hand_of w)) size p 0 k h in
        let d : slice_index (drop size w.values) (p - size) ≡ slice_index w.values p = get_or-drop size w.values (p - size) 0 ∙ ap (λ q. slice_index w.values q) (omega (arith, h)) in
        subst (λ a. Below sys.equations.order a (slice_index w.values p)) (sym e)
        (subst (Below sys.equations.order (slice_index (met sys.equations.order (drop size w.values) (hand_of w)) (p - size))) d (met-below sys.equations.order (drop size w.values) (hand_of w) (p - size)))
  ]

  new_in_form : (p v : ℕ) → StandsAt (places from) p v → Below sys.equations.order (slice_index new p) (sys.equations.start v)
  new_in_form p v h =
      let o = sys.equations.order in
      let xs = lowered sys.equations from.owned w.values (hand_of w) in
      Below-trans o (slice_index new p) (slice_index xs p) (sys.equations.start v) (below_at o new xs (solution sys sound i i_in w f.whole).candidate.below p)
      (Below-trans o (slice_index xs p) (slice_index w.values p) (sys.equations.start v) (lowered_below p) (f.values p v h))

  given : IsFormedWorker sys from (after_giving sys from w)
  given =
      record {
        whole = new-length sys sound i i_in w f.whole ∙ f.whole;
        values = new_in_form;
        fresh = λ h. absurd (false≢true h);
        pending = f.pending;
      }

  sent_in_form : (k : ℕ) → AllByRecursion (IsPostInForm sys (piece_at sys.pieces k)) (sent_to sys from w k)
  sent_in_form k =
      posts_from_changes (IsPostInForm sys (piece_at sys.pieces k)) k w.values new from.routes
      (λ p t l c e v st.
      let count = sound.cut.routes_len i i_in in
      let own : IsOwnedAt sys.pieces i p (slice_index from.owned p) = (i_in, ((omega (arith, count, l)), refl)) in
      let P : ℕ → Type 0 = λ n. StandsAt (piece_at sys.pieces n).mirrors t.mirror (slice_index from.owned p) in
      let there = subst P e ((sound.cut.routes i p (slice_index from.owned p) t.fragment t.mirror own).0 c).1 in
      let same : slice_index from.owned p ≡ v = sym there.1 ∙ st.1 in
      subst (λ u. Below sys.equations.order (slice_index new p) (sys.equations.start u)) same (new_in_form p (slice_index from.owned p) (stands_left from.owned from.mirrors p (slice_index from.owned p) own.1)))

received : (sys : System) (piece : Piece) (j number : ℕ) (posts : List Post) (w : Worker) → AllByRecursion (IsPostInForm sys piece) posts → IsFormedWorker sys piece w → IsFormedWorker sys piece (after_receiving j number posts w)
received sys piece j number [] w h f = f
received sys piece j number (p ∷ posts) w h f =
    let Q = IsPostInForm sys piece in
    record {
      whole = f.whole;
      values = f.values;
      fresh = f.fresh;
      pending = all_append Q w.start_posts _ (all_left Q w.start_posts (flat_map posts_in w.mail) f.pending) (of_added Q w.mail j number (p ∷ posts) (all_right Q w.start_posts (flat_map posts_in w.mail) f.pending) h);
    }

-- ---- a run

formed_after : (sys : System) → IsSound sys → (ws : BaseState) (e : BaseEvent) → IsTrue (is_allowed ws e) → IsFormed sys ws → IsFormed sys (base_after sys ws e)
formed_after sys sound ws e allowed f =
    record {
      count = f.count ∙ sym (after-length sys ws e);
      each = λ k h. let l = after-length sys ws e in one e allowed k (omega (arith, h, l));
    }
  where
    one : (e : BaseEvent) → IsTrue (is_allowed ws e) → (k : ℕ) → k < length ws → IsFormedWorker sys (piece_at sys.pieces k) (worker_at (base_after sys ws e) k)
    one (BaseTake i upto) a k h = subst (IsFormedWorker sys (piece_at sys.pieces k)) (sym (after-at sys ws (BaseTake i upto) k h)) (go (k == i))
      where
        go : (b : Bool) → IsFormedWorker sys (piece_at sys.pieces k) (if b then after_taking sys (piece_at sys.pieces i) upto (worker_at ws k) else worker_at ws k)
        go true = taken sys (piece_at sys.pieces k) (piece_at sys.pieces i) upto (worker_at ws k) (f.each k h)
        go false = f.each k h
    one (BaseGive i) a k h = subst (IsFormedWorker sys (piece_at sys.pieces k)) (sym (after-at sys ws (BaseGive i) k h)) (go (k == i) refl)
      where
        i_in : i < length ws
        i_in = allowed_in_range ws (BaseGive i) a

        in_pieces : (j : ℕ) → j < length ws → j < length sys.pieces
        in_pieces j l = let c = f.count in omega (arith, l, c)

        go : (b : Bool) → (k == i) ≡ b →
            IsFormedWorker sys (piece_at sys.pieces k) (if b then after_giving sys (piece_at sys.pieces i) (worker_at ws k) else after_receiving i ((worker_at ws i).gives + 1) (sent_to sys (piece_at sys.pieces i) (worker_at ws i) k) (worker_at ws k))
        go true e =
            let P : ℕ → Type 0 = λ q. IsFormedWorker sys (piece_at sys.pieces k) (after_giving sys (piece_at sys.pieces q) (worker_at ws k)) in
            subst P (eqb-true k i e) (given sys sound k (in_pieces k h) (worker_at ws k) (f.each k h))
        go false e =
            received sys (piece_at sys.pieces k) i ((worker_at ws i).gives + 1) (sent_to sys (piece_at sys.pieces i) (worker_at ws i) k) (worker_at ws k)
            (sent_in_form sys sound i (in_pieces i i_in) (worker_at ws i) (f.each i i_in) k) (f.each k h)

run_formed : (sys : System) → IsSound sys → (es : List BaseEvent) (ws ws' : BaseState) → Runs sys ws es ws' → IsFormed sys ws → IsFormed sys ws'
run_formed sys sound [] ws ws' r f = subst (IsFormed sys) r f
run_formed sys sound (e ∷ es) ws ws' r f = run_formed sys sound es (base_after sys ws e) ws' r.1 (formed_after sys sound ws e r.0 f)

-- ---- the start

-- a post to one of the mirrors from number a on, below its start
abbrev IsPostFrom : System → ℕ → List ℕ → Post → Type 0
IsPostFrom sys a us p = (j : ℕ) × (p.mirror ≡ a + j) × Below sys.equations.order p.value (sys.equations.start (slice_index us j))

-- the posts of mail in the form
mail_posts : (sys : System) (a : ℕ) (us mail : List ℕ) → AllZip (λ x top. (x ≡ NOTHING) ⊎ Below sys.equations.order x top) mail (starts_of sys.equations us) → AllByRecursion (IsPostFrom sys a us) (posts_from a mail)
mail_posts sys a [] [] h = tt
mail_posts sys a [] (x ∷ mail) h = absurd h
mail_posts sys a (u ∷ us) [] h = absurd h
mail_posts sys a (u ∷ us) (x ∷ mail) h =
    go
    (all_since (IsPostFrom sys (a + 1) us) (IsPostFrom sys a (u ∷ us)) (λ p k. let e = k.1 in (suc k.0, omega (arith, e), k.2)) (posts_from (a + 1) mail) (mail_posts sys (a + 1) us mail h.1))
    (x == NOTHING) refl h.0
  where
    go : AllByRecursion (IsPostFrom sys a (u ∷ us)) (posts_from (a + 1) mail) → (b : Bool) → (x == NOTHING) ≡ b → (x ≡ NOTHING) ⊎ Below sys.equations.order x (sys.equations.start u) →
        AllByRecursion (IsPostFrom sys a (u ∷ us)) (if b then posts_from (a + 1) mail else record { mirror = a; value = x } ∷ posts_from (a + 1) mail)
    go rest true e k = rest
    go rest false e (inl k) = absurd (false≢true (sym e ∙ eq-eqb x NOTHING k))
    go rest false e (inr k) = ((0, omega arith, k), rest)

formed_start : (sys : System) (n : ℕ) (piece : Piece) (part : PartValues) → IsPartInForm sys piece part → IsFormedWorker sys piece (worker_of n part)
formed_start sys n piece part f =
    let Q = IsPostInForm sys piece in
    let none : [] ≡ flat_map posts_in (replicate n []) = sym (no_queued n) in
    record {
      whole = below-length sys.equations.order part.values (starts_of sys.equations (places piece)) f.values ∙ length-map (places piece) sys.equations.start;
      values = λ p v h.
          subst (Below sys.equations.order (slice_index part.values p)) (get_or-map sys.equations.start (places piece) p 0 0 h.0 ∙ ap sys.equations.start h.1)
          (below_at sys.equations.order part.values (starts_of sys.equations (places piece)) f.values p);
      fresh = λ h. f.fresh (is_fresh_phase part.phase h);
      pending = all_append Q (posts_from 0 part.mail) (flat_map posts_in (replicate n []))
          (all_since (IsPostFrom sys 0 piece.mirrors) Q
          (λ p k v st.
          let e : p.mirror ≡ k.0 = (let q = k.1 in omega (arith, q)) in
          subst (λ u. Below sys.equations.order p.value (sys.equations.start u)) (ap (λ q. slice_index piece.mirrors q) (sym e) ∙ st.1) k.2)
          (posts_from 0 part.mail) (mail_posts sys 0 piece.mirrors part.mail f.mail))
          (subst (AllByRecursion Q) none tt);
    }
  where
    is_fresh_phase : (p : Phase) → IsTrue (is_fresh (record { standing = standing_of p; values = part.values; gives = 0; start_posts = posts_from 0 part.mail; mail = replicate n [] })) → p ≡ FreshPhase
    is_fresh_phase FreshPhase h = refl
    is_fresh_phase RestPhase h = absurd (false≢true h)

start_each : (sys : System) (n : ℕ) (pieces : List Piece) (parts : List PartValues) → AllZip (IsPartInForm sys) pieces parts → (i : ℕ) → i < length parts → IsFormedWorker sys (piece_at pieces i) (worker_at (map (worker_of n) parts) i)
start_each sys n [] [] h i l = absurd (omega (arith, l))
start_each sys n [] (p ∷ parts) h i l = absurd h
start_each sys n (p ∷ pieces) [] h i l = absurd h
start_each sys n (p ∷ pieces) (part ∷ parts) h zero l = formed_start sys n p part h.0
start_each sys n (p ∷ pieces) (part ∷ parts) h (suc i) l = start_each sys n pieces parts h.1 i (omega (arith, l))

start_formed : (sys : System) (start : SnapshotParts) → IsInForm sys start → IsFormed sys (base_state_of start)
start_formed sys start form =
    let l = length-map start.parts (worker_of (length start.parts)) in
    record {
      count = start_lengths sys sys.pieces start.parts form.parts ∙ sym l;
      each = λ i h. start_each sys (length start.parts) sys.pieces start.parts form.parts i (omega (arith, h, l));
    }

-- ---- the snapshot

meet_in_form : (o : Order) (top : ℕ) (xs : List ℕ) → AllByRecursion (λ x. Below o x top) xs → (meet_all o NOTHING xs ≡ NOTHING) ⊎ Below o (meet_all o NOTHING xs) top
meet_in_form o top [] h = inl refl
meet_in_form o top (x ∷ xs) h =
    let all = meet_all o NOTHING (x ∷ xs) in
    inr (Below-trans o all x top (meet_all-lower o all NOTHING (x ∷ xs) (Below-refl o all)).1.0 h.0)

zip_from : (R : ℕ → ℕ → Type 0) (f g : ℕ → ℕ) (a : ℕ) (us : List ℕ) → ((j : ℕ) → j < length us → R (f (a + j)) (g (slice_index us j))) → AllZip R (map f (range_with_len a (length us))) (map g us)
zip_from R f g a [] h = tt
zip_from R f g a (u ∷ us) h =
    let z : a + 0 ≡ a = omega arith in (
      subst (λ q. R (f q) (g u)) z (h 0 (omega arith)),
      zip_from R f g (a + 1) us (λ j l. let e : a + suc j ≡ a + 1 + j = omega arith in subst (λ q. R (f q) (g (slice_index us j))) e (h (suc j) (omega (arith, l)))),
    )

formed_part : (sys : System) (piece : Piece) (w : Worker) → IsFormedWorker sys piece w → IsPartInForm sys piece (part_of sys piece w)
formed_part sys piece w f =
    let o = sys.equations.order in
    record {
      values = below_from o w.values (starts_of sys.equations (places piece)) (f.whole ∙ sym (length-map (places piece) sys.equations.start))
          (λ p h.
          let l = f.whole in
          let h' : p < length (places piece) = omega (arith, h, l) in
          subst (Below o (slice_index w.values p)) (sym (get_or-map sys.equations.start (places piece) p 0 0 h')) (f.values p (slice_index (places piece) p) (h', refl)));
      fresh = λ e. f.fresh (go (is_fresh w) e);
      mail = zip_from (λ x top. (x ≡ NOTHING) ⊎ Below o x top) (λ m. meet_all o NOTHING (values_for m (pending_posts w))) sys.equations.start 0 piece.mirrors
          (λ j l.
          let e : j ≡ 0 + j = omega arith in
          let R : ℕ → Type 0 = λ m. (meet_all o NOTHING (values_for m (pending_posts w)) ≡ NOTHING) ⊎ Below o (meet_all o NOTHING (values_for m (pending_posts w))) (sys.equations.start (slice_index piece.mirrors j)) in
          subst R e
          (meet_in_form o (sys.equations.start (slice_index piece.mirrors j)) (values_for j (pending_posts w))
          (all_values_of (λ x. Below o x (sys.equations.start (slice_index piece.mirrors j))) j (pending_posts w)
          (all_since (IsPostInForm sys piece) (λ p. p.mirror ≡ j → Below o p.value (sys.equations.start (slice_index piece.mirrors j)))
          (λ p k q. k (slice_index piece.mirrors j) (subst (λ m. StandsAt piece.mirrors m (slice_index piece.mirrors j)) (sym q) (l, refl))) (pending_posts w) f.pending))));
    }
  where
    go : (b : Bool) → (if b then FreshPhase else RestPhase) ≡ FreshPhase → b ≡ true
    go true e = refl
    go false e = ap (λ (p : Phase). elim p as (λ _. Bool) [ FreshPhase ↦ true | RestPhase ↦ false ]) e

formed_parts : (sys : System) (a : ℕ) (pieces : List Piece) (ws : BaseState) → length pieces ≡ length ws → ((i : ℕ) → i < length ws → piece_at sys.pieces (a + i) ≡ piece_at pieces i) → ((i : ℕ) → i < length ws → IsFormedWorker sys (piece_at pieces i) (worker_at ws i)) →
    AllZip (IsPartInForm sys) pieces (parts_from sys a ws)
formed_parts sys a [] [] e s h = tt
formed_parts sys a [] (w ∷ ws) e s h = absurd (omega (arith, e))
formed_parts sys a (p ∷ pieces) [] e s h = absurd (omega (arith, e))
formed_parts sys a (p ∷ pieces) (w ∷ ws) e s h =
    let z : a + 0 ≡ a = omega arith in
    let here : piece_at sys.pieces a ≡ p = ap (λ q. piece_at sys.pieces q) (sym z) ∙ s 0 (omega arith) in (
      subst (λ q. IsPartInForm sys p (part_of sys q w)) (sym here) (formed_part sys p w (h 0 (omega arith))),
      formed_parts sys (a + 1) pieces ws (omega (arith, e)) (λ i l. let q : a + 1 + i ≡ a + suc i = omega arith in ap (λ x. piece_at sys.pieces x) q ∙ s (suc i) (omega (arith, l))) (λ i l. h (suc i) (omega (arith, l))),
    )

pub form_is_kept : FormIsKept
form_is_kept sys start events ws epoch sound form small run =
    let f = run_formed sys sound events (base_state_of start) ws run (start_formed sys start form) in
    record { epoch = small; parts = formed_parts sys 0 sys.pieces ws f.count (λ i l. let e : 0 + i ≡ i = omega arith in ap (λ x. piece_at sys.pieces x) e) f.each }
