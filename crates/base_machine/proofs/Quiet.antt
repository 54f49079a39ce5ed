-- A quiet fit state has the greatest solution.
use Rattle.std.proofs.Common.{◌≡◌, ℕ, zero, suc, ◌+◌, ◌<◌, ◌⊎◌, inl, inr, not, ◌&&◌, IsTrue, refl, sym, ◌∙◌, ap, subst, arith, List, [], ◌∷◌, length, slice_index, slice_index_or, sum_by, flat_map}
use Rattle.std.proofs.lemmas.List.Sums.{sum_by-cons}
use Rattle.std.proofs.lemmas.Bool.{and_parts, not-true, ltb-false, false≢true}
use native.Mathlib.Decide.{dec_lt}
use Rattle.value_order.specs.Order.{Below, meet_of, meet_all}
use Rattle.value_order.specs.declared.TheConstants.{NOTHING}
use Rattle.value_order.proofs.Orders.{Below-refl, Below-antisym, Below-trans, meet-below_left, meet-greatest}
use Rattle.graph_core.specs.Equations.{Assignment, IsGreatest, LiesBelow, IsPostFixpoint}
use Rattle.graph_core.specs.Fragments.{Piece, piece_at, places, StandsAt, IsOwnedAt}
use Rattle.graph_core.proofs.Cutting.{stands_left, stands_cases}
use Rattle.pie_core.specs.Solutions.{value_at}
use Rattle.base_machine.specs.Machine.{System, BaseState, BaseEvent, Worker, Batch, Post, Standing, Fresh, Running, Rest, worker_at, rests, batch_waits, hand_of, pending_posts, posts_in, base_after, base_state_of, values_for}
use Rattle.base_machine.specs.Runs.{Runs}
use Rattle.base_machine.specs.Fitness.{IsFit, IsBetween, is_quiet, known_at}
use Rattle.base_machine.specs.Theorems.{IsSound, FitIsKept, Confluence}
use Rattle.base_machine.proofs.Meets.{value_at-place, stands_in_range}

-- the state after a run is fit, where each event keeps it so
pub fit_after : FitIsKept → (sys : System) (g : Assignment) → IsSound sys → IsGreatest sys.equations g → (events : List BaseEvent) (ws ws' : BaseState) → IsFit sys g ws → Runs sys ws events ws' → IsFit sys g ws'
fit_after kept sys g sound greatest [] ws ws' fit run = subst (IsFit sys g) run fit
fit_after kept sys g sound greatest (e ∷ events) ws ws' fit run =
    fit_after kept sys g sound greatest events (base_after sys ws e) ws' (kept sys g sound greatest ws e fit run.0) run.1

-- ---- what quiet says of one worker

record IsIdle (w : Worker) : Type 0 where
  rest : IsTrue (rests w)
  hand : hand_of w ≡ []
  nothing : pending_posts w ≡ []

no_batches : (mail : List (List Batch)) → sum_by length mail ≡ 0 → flat_map posts_in mail ≡ []
no_batches [] h = refl
no_batches ([] ∷ mail) h = let e = sum_by-cons {X = List Batch} length [] mail in no_batches mail (omega (arith, e, h))
no_batches ((b ∷ bs) ∷ mail) h = let e = sum_by-cons {X = List Batch} length (b ∷ bs) mail in absurd (omega (arith, e, h))

idle_parts : (standing : Standing) (values : List ℕ) (gives : ℕ) (posts : List Post) (mail : List (List Batch)) →
    let w : Worker = record { standing = standing; values = values; gives = gives; start_posts = posts; mail = mail } in
    IsTrue (rests w && not (batch_waits w)) → IsIdle w
idle_parts Fresh values gives posts mail h = absurd (false≢true h)
idle_parts (Running hand) values gives posts mail h = absurd (false≢true h)
idle_parts Rest values gives [] mail h =
    let k = ltb-false 0 (0 + sum_by length mail) (not-true _ h) in record { rest = refl; hand = refl; nothing = no_batches mail (omega (arith, k)) }
idle_parts Rest values gives (p ∷ posts) mail h =
    let k = ltb-false 0 (1 + sum_by length mail) (not-true _ h) in absurd (omega (arith, k))

idle_worker : (w : Worker) → IsTrue (rests w && not (batch_waits w)) → IsIdle w
idle_worker w h = idle_parts w.standing w.values w.gives w.start_posts w.mail h

idle_at : (ws : BaseState) (i : ℕ) → IsTrue (is_quiet ws) → i < length ws → IsIdle (worker_at ws i)
idle_at [] i h k = absurd (omega (arith, k))
idle_at (w ∷ ws) zero h k = idle_worker w (and_parts _ _ h).0
idle_at (w ∷ ws) (suc i) h k = idle_at ws i (and_parts _ _ h).1 (omega (arith, k))

-- ---- the owners' values

module _ (sys : System) (g : Assignment) (sound : IsSound sys) (greatest : IsGreatest sys.equations g) (ws : BaseState) (fit : IsFit sys g ws) (quiet : IsTrue (is_quiet ws)) where
  -- the value that the owner of a vertex has
  owner_value : Assignment
  owner_value v = elim (dec_lt v sys.equations.count) [ yes h ↦ slice_index (worker_at ws (sound.cut.owned v h).0).values (sound.cut.owned v h).1 | no h ↦ 0 ]

  owned_in_range : (i p v : ℕ) → IsOwnedAt sys.pieces i p v → v < sys.equations.count
  owned_in_range i p v h = stands_in_range sys sound i p v h.0 (stands_left (piece_at sys.pieces i).owned (piece_at sys.pieces i).mirrors p v h.1)

  owner_value-is : (i p v : ℕ) → IsOwnedAt sys.pieces i p v → owner_value v ≡ slice_index (worker_at ws i).values p
  unfolding owner_value
  owner_value-is i p v h = go (dec_lt v sys.equations.count)
    where
      go : (d : Dec (v < sys.equations.count)) →
          elim d as (λ _. ℕ) [ yes h ↦ slice_index (worker_at ws (sound.cut.owned v h).0).values (sound.cut.owned v h).1 | no h ↦ 0 ] ≡ slice_index (worker_at ws i).values p
      go (yes k) =
          let o = sound.cut.owned v k in
          let e = sound.cut.owned_once o.0 o.1 i p v o.2 h in
          λ t. slice_index (worker_at ws (e.0 t)).values (e.1 t)
      go (no k) = absurd (k (owned_in_range i p v h))

  worker_in_range : (i : ℕ) → i < length sys.pieces → i < length ws
  worker_in_range i h = let e = fit.workers in omega (arith, e, h)

  is_value : (i q u : ℕ) → i < length sys.pieces → StandsAt (places (piece_at sys.pieces i)) q u → Below sys.equations.order (slice_index (worker_at ws i).values q) NOTHING
  is_value i q u h k =
      Below-trans sys.equations.order (slice_index (worker_at ws i).values q) (sys.equations.start u) NOTHING
      ((fit.each i (worker_in_range i h)).values q u k).1 (sound.lawful.start_is_value u (stands_in_range sys sound i q u h k))

  nothing_more : (w : Worker) (piece : Piece) (m : ℕ) → IsIdle w → Below sys.equations.order (slice_index w.values (length piece.owned + m)) NOTHING →
      known_at sys piece w m ≡ slice_index w.values (length piece.owned + m)
  nothing_more w piece m idle h =
      let a = slice_index w.values (length piece.owned + m) in
      let e : known_at sys piece w m ≡ meet_of sys.equations.order a NOTHING =
      λ t. meet_all sys.equations.order a (slice_index_or (idle.hand t) m NOTHING ∷ values_for m (idle.nothing t)) in
      e ∙ Below-antisym sys.equations.order _ _ (meet-below_left sys.equations.order a NOTHING) (meet-greatest sys.equations.order a NOTHING a (Below-refl sys.equations.order a) h)

  -- a resting worker without mail sees the owners' values
  sees : (i q u : ℕ) → i < length sys.pieces → StandsAt (places (piece_at sys.pieces i)) q u → slice_index (worker_at ws i).values q ≡ owner_value u
  sees i q u h k = go (stands_cases (piece_at sys.pieces i).owned (piece_at sys.pieces i).mirrors q u k)
    where
      go : StandsAt (piece_at sys.pieces i).owned q u ⊎ ((m : ℕ) × (q ≡ length (piece_at sys.pieces i).owned + m) × StandsAt (piece_at sys.pieces i).mirrors m u) →
          slice_index (worker_at ws i).values q ≡ owner_value u
      go (inl l) = sym (owner_value-is i q u (h, l))
      go (inr r) =
          let o = sound.cut.owned u (stands_in_range sys sound i q u h k) in
          let w = worker_at ws i in
          let at_mirror = ap (λ n. slice_index w.values n) r.1 in
          let seen = nothing_more w (piece_at sys.pieces i) r.0 (idle_at ws i quiet (worker_in_range i h))
          (subst (λ a. Below sys.equations.order a NOTHING) at_mirror (is_value i q u h k)) in
          at_mirror ∙ (sym seen ∙ ((fit.each i (worker_in_range i h)).mirrors r.0 o.0 o.1 u r.2 o.2 ∙ sym (owner_value-is o.0 o.1 u o.2)))

  below_own : (i p v : ℕ) → IsOwnedAt sys.pieces i p v → Below sys.equations.order (slice_index (worker_at ws i).values p) (sys.equations.phi v owner_value)
  below_own i p v h =
      let w = worker_at ws i in
      let piece = piece_at sys.pieces i in
      let here = (fit.each i (worker_in_range i h.0)).rested (idle_at ws i quiet (worker_in_range i h.0)).rest p h.1.0 in
      let own : Below sys.equations.order (slice_index w.values p) (sys.equations.phi v (value_at (places piece) w.values)) =
      subst (λ x. Below sys.equations.order (slice_index w.values p) (sys.equations.phi x (value_at (places piece) w.values))) h.1.1 here in
      Below-trans sys.equations.order _ _ _ own
      (sound.lawful.monotone v (value_at (places piece) w.values) owner_value (owned_in_range i p v h)
      (λ u c.
      let q = sound.cut.reads i p v u h c in
      let s = value_at-place (places piece) w.values u q.0 (fit.each i (worker_in_range i h.0)).shape.values q.1 in
      subst (λ a. Below sys.equations.order a (owner_value u)) (sym (s.2 ∙ sees i s.0 u h.0 s.1)) (Below-refl sys.equations.order (owner_value u))))

  post_fixpoint : IsPostFixpoint sys.equations owner_value
  post_fixpoint v h =
      let o = sound.cut.owned v h in
      subst (λ a. Below sys.equations.order a (sys.equations.phi v owner_value)) (sym (owner_value-is o.0 o.1 v o.2)) (below_own o.0 o.1 v o.2)

  owned_between : (i p v : ℕ) (h : IsOwnedAt sys.pieces i p v) → IsBetween sys g v (slice_index (worker_at ws i).values p)
  owned_between i p v h = (fit.each i (worker_in_range i h.0)).values p v (stands_left (piece_at sys.pieces i).owned (piece_at sys.pieces i).mirrors p v h.1)

  below_start : LiesBelow sys.equations owner_value sys.equations.start
  below_start v h =
      let o = sound.cut.owned v h in
      subst (λ a. Below sys.equations.order a (sys.equations.start v)) (sym (owner_value-is o.0 o.1 v o.2)) (owned_between o.0 o.1 v o.2).1

  pub quiet_is_greatest : (i p v : ℕ) → IsOwnedAt sys.pieces i p v → slice_index (worker_at ws i).values p ≡ g v
  quiet_is_greatest i p v h =
      let below = greatest.greatest owner_value below_start post_fixpoint v (owned_in_range i p v h) in
      Below-antisym sys.equations.order _ _ (subst (λ a. Below sys.equations.order a (g v)) (owner_value-is i p v h) below) (owned_between i p v h).0

-- confluence, where each event keeps fitness
pub confluence_from : FitIsKept → Confluence
confluence_from kept sys g sound greatest start events ws fit run quiet i p v h =
    quiet_is_greatest sys g sound greatest ws (fit_after kept sys g sound greatest events (base_state_of start) ws fit run) quiet i p v h
