-- The beginning is fit.
use Rattle.std.proofs.Common.{◌≡◌, ℕ, ◌+◌, ◌<◌, inl, if◌then◌else◌, refl, sym, ◌∙◌, ap, subst, arith, List, [], ◌∷◌, ◌++◌, length, map, slice_index}
use Rattle.std.specs.List.{AllByRecursion}
use Rattle.std.proofs.lemmas.Bool.{false≢true, eq-eqb}
use Rattle.std.proofs.lemmas.List.{length-map, get_or-map, length-replicate}
use Rattle.value_order.specs.Order.{Below, meet_of, meet_all}
use Rattle.value_order.specs.declared.TheConstants.{NOTHING}
use Rattle.value_order.proofs.Orders.{Below-refl}
use Rattle.graph_core.specs.Equations.{Equations, Assignment, IsGreatest}
use Rattle.graph_core.specs.Fragments.{Piece, no_piece, piece_at, places, StandsAt}
use Rattle.graph_core.proofs.Cutting.{stands_left, stands_right}
use Rattle.base_machine.specs.Machine.{System, BaseState, Worker, worker_at, no_worker, pending_posts, posts_from, values_for, worker_of, base_state_of, fresh_part, fresh_snapshot}
use Rattle.base_machine.specs.Fitness.{IsFit, IsFitWorker, IsBetween, known_at}
use Rattle.base_machine.specs.Theorems.{IsSound, FreshIsFit}
use Rattle.base_machine.proofs.Meets.{stands_in_range}
use Rattle.base_machine.proofs.Giving.{neutral}
use Rattle.base_machine.proofs.Posts.{no_queued}

no_posts : (m : ℕ) (vs : List ℕ) → posts_from m (map (λ v. NOTHING) vs) ≡ []
no_posts m [] = refl
no_posts m (v ∷ vs) =
    ap (λ b. if b then posts_from (m + 1) (map (λ v. NOTHING) vs) else record { mirror = m; value = NOTHING } ∷ posts_from (m + 1) (map (λ v. NOTHING) vs)) (eq-eqb NOTHING NOTHING refl) ∙ no_posts (m + 1) vs

no_pending : (n : ℕ) (e : Equations) (piece : Piece) → pending_posts (worker_of n (fresh_part e piece)) ≡ []
no_pending n e piece = λ i. no_posts 0 piece.mirrors i ++ no_queued n i

module _ (sys : System) (g : Assignment) (sound : IsSound sys) (greatest : IsGreatest sys.equations g) where
  abbrev count : ℕ
  count = length (fresh_snapshot sys).parts

  abbrev beginner : ℕ → Worker
  beginner i = worker_of count (fresh_part sys.equations (piece_at sys.pieces i))

  abbrev ws : BaseState
  ws = base_state_of (fresh_snapshot sys)

  ws-length : length ws ≡ length sys.pieces
  ws-length = length-map (fresh_snapshot sys).parts (worker_of count) ∙ length-map sys.pieces (fresh_part sys.equations)

  at : (i : ℕ) → i < length sys.pieces → worker_at ws i ≡ beginner i
  at i h =
      let l = length-map sys.pieces (fresh_part sys.equations) in
      get_or-map (worker_of count) (fresh_snapshot sys).parts i (fresh_part sys.equations no_piece) no_worker (omega (arith, l, h))
      ∙ ap (worker_of count) (get_or-map (fresh_part sys.equations) sys.pieces i no_piece (fresh_part sys.equations no_piece) h)

  start_at : (i p v : ℕ) → StandsAt (places (piece_at sys.pieces i)) p v → slice_index (beginner i).values p ≡ sys.equations.start v
  start_at i p v k = get_or-map sys.equations.start (places (piece_at sys.pieces i)) p 0 0 k.0 ∙ ap sys.equations.start k.1

  fit_beginner : (i : ℕ) → i < length sys.pieces → IsFitWorker sys g ws (piece_at sys.pieces i) (beginner i)
  fit_beginner i h =
      let o = sys.equations.order in
      let piece = piece_at sys.pieces i in
      let none = no_pending count sys.equations piece in
      record {
        shape = record {
          values = length-map (places piece) sys.equations.start;
          hand = omega arith;
          senders = length-replicate count [] ∙ sym (length-map (fresh_snapshot sys).parts (worker_of count));
          posts = subst (AllByRecursion (λ p. p.mirror < length piece.mirrors)) (sym none) tt;
        };
        values = λ p v k.
            let v_in = stands_in_range sys sound i p v h k in
            subst (IsBetween sys g v) (sym (start_at i p v k)) (greatest.below_start v v_in, Below-refl o (sys.equations.start v));
        held = λ m v k. inl refl;
        pending = subst (AllByRecursion (λ p. (v : ℕ) → StandsAt piece.mirrors p.mirror v → IsBetween sys g v p.value)) (sym none) tt;
        rested = λ r. absurd (false≢true r);
        mirrors = λ m j p v k own.
            let stands = stands_right piece.owned piece.mirrors m v k in
            let a = slice_index (beginner i).values (length piece.owned + m) in
            let small : Below o a NOTHING = subst (λ x. Below o x NOTHING) (sym (start_at i (length piece.owned + m) v stands)) (sound.lawful.start_is_value v (stands_in_range sys sound i (length piece.owned + m) v h stands)) in
            let known : known_at sys piece (beginner i) m ≡ meet_of o a NOTHING = ap (λ l. meet_all o a (NOTHING ∷ values_for m l)) none in
            let there : slice_index (worker_at ws j).values p ≡ sys.equations.start v =
            ap (λ (w : Worker). slice_index w.values p) (at j own.0) ∙ start_at j p v (stands_left (piece_at sys.pieces j).owned (piece_at sys.pieces j).mirrors p v own.1) in
            known ∙ (neutral o a small ∙ (start_at i (length piece.owned + m) v stands ∙ sym there));
        fresh = λ r. refl;
      }

  fit_fresh : IsFit sys g ws
  fit_fresh =
      record {
        workers = ws-length;
        each = λ i h. let l = ws-length in let i_in : i < length sys.pieces = omega (arith, h, l) in subst (IsFitWorker sys g ws (piece_at sys.pieces i)) (sym (at i i_in)) (fit_beginner i i_in);
      }

pub fresh_is_fit : FreshIsFit
fresh_is_fit sys g sound greatest = fit_fresh sys g sound greatest
