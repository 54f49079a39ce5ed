-- The Takes of a run are bounded.
use Rattle.std.proofs.Common.{◌≡◌, ℕ, zero, suc, ◌+◌, ◌*◌, ◌<◌, ◌≤◌, Bool, true, false, ◌==◌, if◌then◌else◌, IsTrue, refl, sym, ◌∙◌, ap, subst, arith, List, [], ◌∷◌, ◌++◌, length, map, take, drop, slice_index, length-append, length-take, length-drop, replicate, sum_by}
use Rattle.std.specs.List.{AllZip}
use Rattle.std.proofs.lemmas.Bool.{and_parts, ltb-true, eqb-true}
use Rattle.std.proofs.lemmas.List.{length-map, get_or_append_left, get_or-take}
use Rattle.std.proofs.lemmas.List.Sums.{sum_by-cons}
use Rattle.value_order.specs.Order.{Below, height_of}
use Rattle.value_order.proofs.Orders.{height-le}
use Rattle.graph_core.specs.declared.fragment.Route.{Route}
use Rattle.graph_core.specs.Equations.{Equations}
use Rattle.graph_core.specs.Fragments.{Piece, piece_at, places}
use Rattle.graph_core.proofs.Cutting.{stands_left}
use Rattle.token_cut.specs.Parts.{PartValues, SnapshotParts}
use Rattle.pie_core.specs.Solutions.{AllBelow, IsLocalSolution, lowered, met, starts_of}
use Rattle.pie_core.proofs.Existence.{local_solution-computed}
use Rattle.base_machine.specs.Machine.{System, BaseState, BaseEvent, BaseTake, BaseGive, Worker, Batch, Post, worker_at, is_fresh, hand_of, is_empty, posts_from, worker_of, base_state_of, after_taking, after_giving, after_receiving, values_given, sent_to, base_after, is_allowed}
use Rattle.base_machine.specs.Runs.{Runs, takes_in}
use Rattle.base_machine.specs.Fitness.{IsInForm, IsPartInForm}
use Rattle.base_machine.specs.Bounds.{heights_by_routes}
use Rattle.base_machine.specs.Theorems.{IsSound, RunsAreBounded}
use Rattle.base_machine.proofs.Giving.{below_at, below-length, met-length}
use Rattle.base_machine.proofs.Swapping.{after-length, after-at}
use Rattle.base_machine.proofs.Measure.{weight, heights, total, total-set, take_lowers, heights_fall, changes, give_total, posts_sum, range_at, mul_le}

-- every worker has a value for each place
record HasValues (sys : System) (ws : BaseState) : Type 0 where
  count : length sys.pieces ≡ length ws
  each : (i : ℕ) → i < length ws → length (worker_at ws i).values ≡ length (places (piece_at sys.pieces i))

-- ---- what a worker gives lies below what it had

module _ (sys : System) (sound : IsSound sys) (i : ℕ) (i_in : i < length sys.pieces) (w : Worker) (whole : length w.values ≡ length (places (piece_at sys.pieces i))) where
  abbrev from : Piece
  from = piece_at sys.pieces i

  abbrev xs : List ℕ
  xs = lowered sys.equations from.owned w.values (hand_of w)

  abbrev new : List ℕ
  new = values_given sys from w

  pub sizes : length w.values ≡ length from.owned + length from.mirrors
  sizes = whole ∙ length-append from.owned from.mirrors

  pub front : length (take (length from.owned) w.values) ≡ length from.owned
  front = let e = sizes in let k = length-take (length from.owned) w.values in omega (arith, e, k)

  xs-length : length xs ≡ length w.values
  xs-length =
      let a = length-append (take (length from.owned) w.values) (met sys.equations.order (drop (length from.owned) w.values) (hand_of w)) in
      let b = met-length sys.equations.order (drop (length from.owned) w.values) (hand_of w) in
      let c = length-drop (length from.owned) w.values in
      let d = front in
      let e = sizes in
      omega (arith, a, b, c, d, e)

  pub solution : IsLocalSolution sys.equations from.owned from.mirrors xs new
  solution =
      local_solution-computed sys.equations from.owned from.mirrors xs sound.lawful
      (λ p h.
      let s = stands_left from.owned from.mirrors p (slice_index from.owned p) (h, refl) in
      let P : ℕ → Type 0 = λ n. n < sys.equations.count in
      subst P s.1 (sound.cut.in_range i p i_in s.0))

  pub new-length : length new ≡ length w.values
  new-length = below-length sys.equations.order new xs solution.candidate.below ∙ xs-length

  new-below : (p : ℕ) → p < length from.owned → Below sys.equations.order (slice_index new p) (slice_index w.values p)
  new-below p h =
      let f = front in
      let e = get_or_append_left (take (length from.owned) w.values) (met sys.equations.order (drop (length from.owned) w.values) (hand_of w)) 0 p (omega (arith, f, h)) ∙ get_or-take (length from.owned) w.values p 0 h in
      subst (Below sys.equations.order (slice_index new p)) e (below_at sys.equations.order new xs solution.candidate.below p)

  pub giver_lowers : weight sys.equations.order from (after_giving sys from w) + changes w.values new from.routes ≤ weight sys.equations.order from w
  giver_lowers =
      let l = sound.cut.routes_len i i_in in
      let s = sizes in
      let n = new-length in
      let k = heights_fall sys.equations.order w.values new from.routes (omega (arith, l, s)) (omega (arith, l, s, n)) (λ p h. new-below p (omega (arith, l, h))) in
      omega (arith, k)

-- ---- one base event

take_step : (sys : System) (ws : BaseState) (i : ℕ) (upto : List ℕ) → HasValues sys ws → IsTrue (is_allowed ws (BaseTake i upto)) →
    1 + total sys.equations.order sys.pieces (base_after sys ws (BaseTake i upto)) ≤ total sys.equations.order sys.pieces ws
take_step sys ws i upto v h =
    let o = sys.equations.order in
    let piece = piece_at sys.pieces i in
    let w' = after_taking sys piece upto (worker_at ws i) in
    let i_in = ltb-true i (length ws) (and_parts _ _ (and_parts _ _ h).0).0 in
    let a = total-set o sys.pieces ws i w' i_in v.count in
    let b = take_lowers sys o piece upto (worker_at ws i) (and_parts _ _ h).1 in
    omega (arith, a, b)

give_step : (sys : System) → IsSound sys → (ws : BaseState) (i : ℕ) → HasValues sys ws → i < length ws →
    total sys.equations.order sys.pieces (base_after sys ws (BaseGive i)) ≤ total sys.equations.order sys.pieces ws
give_step sys sound ws i v h =
    let o = sys.equations.order in
    let piece = piece_at sys.pieces i in
    let w = worker_at ws i in
    let e = v.count in
    let i_in : i < length sys.pieces = omega (arith, e, h) in
    let gone = changes w.values (values_given sys piece w) piece.routes in
    let lowers = giver_lowers sys sound i i_in w (v.each i h) in
    let P : ℕ → Type 0 = λ q. weight o (piece_at sys.pieces q) (after_giving sys piece (worker_at ws q)) + gone ≤ weight o (piece_at sys.pieces q) (worker_at ws q) in
    let a = give_total sys o i (w.gives + 1) gone piece (λ k. sent_to sys piece w k) 0 sys.pieces ws v.count (λ q l f. let g : i ≡ q = omega (arith, f) in subst P g lowers) in
    let b = posts_sum 0 (length ws) w.values (values_given sys piece w) piece.routes in
    let c = range_at 0 (length ws) i gone (omega arith) (omega (arith, h)) in
    omega (arith, a, b, c)

received_values : (j number : ℕ) (posts : List Post) (w : Worker) → (after_receiving j number posts w).values ≡ w.values
received_values j number [] w = refl
received_values j number (p ∷ posts) w = refl

values_kept : (sys : System) → IsSound sys → (ws : BaseState) (e : BaseEvent) → HasValues sys ws → HasValues sys (base_after sys ws e)
values_kept sys sound ws e v =
    record {
      count = v.count ∙ sym (after-length sys ws e);
      each = λ k h. let l = after-length sys ws e in one e k (omega (arith, h, l));
    }
  where
    one : (e : BaseEvent) (k : ℕ) → k < length ws → length (worker_at (base_after sys ws e) k).values ≡ length (places (piece_at sys.pieces k))
    one (BaseTake i upto) k h = ap (λ (w : Worker). length w.values) (after-at sys ws (BaseTake i upto) k h) ∙ (go (k == i) ∙ v.each k h)
      where
        go : (b : Bool) → length (if b then after_taking sys (piece_at sys.pieces i) upto (worker_at ws k) else worker_at ws k).values ≡ length (worker_at ws k).values
        go true = refl
        go false = refl
    one (BaseGive i) k h = ap (λ (w : Worker). length w.values) (after-at sys ws (BaseGive i) k h) ∙ (go (k == i) refl ∙ v.each k h)
      where
        k_in : k < length sys.pieces
        k_in = let e = v.count in omega (arith, e, h)

        go : (b : Bool) → (k == i) ≡ b →
            length (if b then after_giving sys (piece_at sys.pieces i) (worker_at ws k) else after_receiving i ((worker_at ws i).gives + 1) (sent_to sys (piece_at sys.pieces i) (worker_at ws i) k) (worker_at ws k)).values ≡ length (worker_at ws k).values
        go true e =
            let P : ℕ → Type 0 = λ q. length (values_given sys (piece_at sys.pieces q) (worker_at ws k)) ≡ length (worker_at ws k).values in
            subst P (eqb-true k i e) (new-length sys sound k (let c = v.count in omega (arith, c, h)) (worker_at ws k) (v.each k h))
        go false e = ap (λ l. length l) (received_values i ((worker_at ws i).gives + 1) (sent_to sys (piece_at sys.pieces i) (worker_at ws i) k) (worker_at ws k))

run_lowers : (sys : System) → IsSound sys → (es : List BaseEvent) (ws ws' : BaseState) → HasValues sys ws → Runs sys ws es ws' → takes_in es + total sys.equations.order sys.pieces ws' ≤ total sys.equations.order sys.pieces ws
run_lowers sys sound [] ws ws' v r = let e = ap {B = ℕ} (total sys.equations.order sys.pieces) r in omega (arith, e)
run_lowers sys sound (BaseTake i upto ∷ es) ws ws' v r =
    let a = take_step sys ws i upto v r.0 in
    let b = run_lowers sys sound es (base_after sys ws (BaseTake i upto)) ws' (values_kept sys sound ws (BaseTake i upto) v) r.1 in
    omega (arith, a, b)
run_lowers sys sound (BaseGive i ∷ es) ws ws' v r =
    let a = give_step sys sound ws i v (ltb-true i (length ws) (and_parts _ _ r.0).0) in
    let b = run_lowers sys sound es (base_after sys ws (BaseGive i)) ws' (values_kept sys sound ws (BaseGive i) v) r.1 in
    omega (arith, a, b)

-- ---- the start

no_batches : (n : ℕ) → sum_by {X = List Batch} length (replicate n []) ≡ 0
no_batches zero = refl
no_batches (suc n) = let a = sum_by-cons {X = List Batch} length [] (replicate n []) in let b = no_batches n in omega (arith, a, b)

heights-start : (e : Equations) (vs us xs : List ℕ) (routes : List (List Route)) → length routes ≤ length vs → AllBelow e.order xs (map e.start (vs ++ us)) → heights e.order xs routes ≤ heights_by_routes e vs routes
heights-start e [] us [] routes l h = omega arith
heights-start e [] us (x ∷ xs) [] l h = omega arith
heights-start e [] us (x ∷ xs) (r ∷ routes) l h = absurd (omega (arith, l))
heights-start e (v ∷ vs) us [] routes l h = absurd h
heights-start e (v ∷ vs) us (x ∷ xs) [] l h = omega arith
heights-start e (v ∷ vs) us (x ∷ xs) (r ∷ routes) l h =
    let a = heights-start e vs us xs routes (omega (arith, l)) h.1 in
    let b = height-le e.order x (e.start v) h.0 in
    let c = mul_le (height_of e.order x) (height_of e.order (e.start v)) (length r) b in
    omega (arith, a, c)

one_or_none : (b : Bool) → (if b then 1 else 0) ≤ 1
one_or_none true = omega arith
one_or_none false = omega arith

none_or_one : (b : Bool) → (if b then 0 else 1) ≤ 1
none_or_one true = omega arith
none_or_one false = omega arith

start_total : (sys : System) (n : ℕ) (pieces : List Piece) (parts : List PartValues) → ((q : ℕ) → q < length pieces → length (piece_at pieces q).routes ≤ length (piece_at pieces q).owned) → AllZip (IsPartInForm sys) pieces parts →
    total sys.equations.order pieces (map (worker_of n) parts) ≤ 2 * length pieces + sum_by (λ piece. heights_by_routes sys.equations piece.owned piece.routes) pieces
start_total sys n [] [] r h = omega arith
start_total sys n [] (p ∷ parts) r h = absurd h
start_total sys n (p ∷ pieces) [] r h = absurd h
start_total sys n (p ∷ pieces) (part ∷ parts) r h =
    let again = start_total sys n pieces parts (λ q l. r (suc q) (omega (arith, l))) h.1 in
    let sum = sum_by-cons (λ (piece : Piece). heights_by_routes sys.equations piece.owned piece.routes) p pieces in
    let here = heights-start sys.equations p.owned p.mirrors part.values p.routes (r 0 (omega arith)) h.0.values in
    let none = no_batches n in
    let a = one_or_none (is_fresh (worker_of n part)) in
    let b = none_or_one (is_empty (posts_from 0 part.mail)) in
    omega (arith, again, sum, here, none, a, b)

pub start_lengths : (sys : System) (pieces : List Piece) (parts : List PartValues) → AllZip (IsPartInForm sys) pieces parts → length pieces ≡ length parts
start_lengths sys [] [] h = refl
start_lengths sys [] (p ∷ parts) h = absurd h
start_lengths sys (p ∷ pieces) [] h = absurd h
start_lengths sys (p ∷ pieces) (part ∷ parts) h = let k = start_lengths sys pieces parts h.1 in omega (arith, k)

start_values_at : (sys : System) (n : ℕ) (pieces : List Piece) (parts : List PartValues) → AllZip (IsPartInForm sys) pieces parts → (i : ℕ) → i < length parts →
    length (worker_at (map (worker_of n) parts) i).values ≡ length (places (piece_at pieces i))
start_values_at sys n [] [] h i l = absurd (omega (arith, l))
start_values_at sys n [] (p ∷ parts) h i l = absurd h
start_values_at sys n (p ∷ pieces) [] h i l = absurd h
start_values_at sys n (p ∷ pieces) (part ∷ parts) h zero l = below-length sys.equations.order part.values (starts_of sys.equations (places p)) h.0.values ∙ length-map (places p) sys.equations.start
start_values_at sys n (p ∷ pieces) (part ∷ parts) h (suc i) l = start_values_at sys n pieces parts h.1 i (omega (arith, l))

start_has_values : (sys : System) (start : SnapshotParts) → IsInForm sys start → HasValues sys (base_state_of start)
start_has_values sys start form =
    let l = length-map start.parts (worker_of (length start.parts)) in
    record {
      count = start_lengths sys sys.pieces start.parts form.parts ∙ sym l;
      each = λ i h. start_values_at sys (length start.parts) sys.pieces start.parts form.parts i (omega (arith, h, l));
    }

pub runs_are_bounded : RunsAreBounded
runs_are_bounded sys start events ws sound form runs =
    let n = length start.parts in
    let a = run_lowers sys sound events (base_state_of start) ws (start_has_values sys start form) runs in
    let c = start_total sys n sys.pieces start.parts (λ q h. let l = sound.cut.routes_len q h in omega (arith, l)) form.parts in
    omega (arith, a, c)
