-- Quiet states, states in the form of a snapshot, and states from which every run comes to the answer.
use Rattle.std.specs.Prelude.{◌≡◌, ℕ, ◌+◌, ◌^◌, ◌<◌, ◌≤◌, ◌⊎◌, Bool, not, ◌&&◌, IsTrue, ◌∷◌, length, slice_index, slice_index_or}
use Rattle.std.specs.List.{list_all, AllZip, AllByRecursion}
use Rattle.value_order.specs.Order.{Below, meet_all}
use Rattle.value_order.specs.declared.TheConstants.{NOTHING}
use Rattle.graph_core.specs.Equations.{Assignment}
use Rattle.graph_core.specs.Fragments.{Piece, piece_at, places, StandsAt, IsOwnedAt}
use Rattle.pie_core.specs.Solutions.{AllBelow, OwnEquationsHold, starts_of}
use Rattle.token_cut.specs.declared.phase.Phase.TheVariants.{Fresh as FreshPhase}
use Rattle.token_cut.specs.Parts.{PartValues, SnapshotParts}
use Rattle.base_machine.specs.Machine.{System, BaseState, Worker, worker_at, is_fresh, rests, hand_of, batch_waits, pending_posts, values_for}

-- every worker rests and nothing is pending
abbrev pub is_quiet : BaseState → Bool
is_quiet ws = list_all (λ w. rests w && not (batch_waits w)) ws

-- ---- the form of a snapshot

-- the values lie below the start, and equal it in a Fresh part; a mail value is NOTHING or lies below the start of its mirror
pub record IsPartInForm (sys : System) (piece : Piece) (part : PartValues) : Type 0 where
  pub values : AllBelow sys.equations.order part.values (starts_of sys.equations (places piece))
  pub fresh : part.phase ≡ FreshPhase → part.values ≡ starts_of sys.equations (places piece)
  pub mail : AllZip (λ x top. (x ≡ NOTHING) ⊎ Below sys.equations.order x top) part.mail (starts_of sys.equations piece.mirrors)

-- a part for each piece, in the form, and an epoch up to the last one, 0 for the beginning
pub record IsInForm (sys : System) (s : SnapshotParts) : Type 0 where
  pub epoch : s.epoch < 2 ^ 62
  pub parts : AllZip (IsPartInForm sys) sys.pieces s.parts

-- ---- fitness

-- x lies between g and the start at vertex v
abbrev pub IsBetween : System → Assignment → ℕ → ℕ → Type 0
IsBetween sys g v x = Below sys.equations.order (g v) x × Below sys.equations.order x (sys.equations.start v)

-- A worker has a value for each place; while it runs, a hand with no place past its mirrors; a queue for each sender; and mail for its mirrors alone.
pub record HasShape (piece : Piece) (workers : ℕ) (w : Worker) : Type 0 where
  pub values : length w.values ≡ length (places piece)
  pub hand : length (hand_of w) ≤ length piece.mirrors
  pub senders : length w.mail ≡ workers
  pub posts : AllByRecursion (λ p. p.mirror < length piece.mirrors) (pending_posts w)

-- what a worker knows of a mirror: its value, what it holds and what is pending
abbrev pub known_at : System → Piece → Worker → ℕ → ℕ
known_at sys piece w m =
    meet_all sys.equations.order (slice_index w.values (length piece.owned + m)) (slice_index_or (hand_of w) m NOTHING ∷ values_for m (pending_posts w))

-- What a Fit state says of one worker, where g is the greatest solution.
pub record IsFitWorker (sys : System) (g : Assignment) (ws : BaseState) (piece : Piece) (w : Worker) : Type 0 where
  pub shape : HasShape piece (length ws) w
  -- every value, held value and pending value of a vertex lies above g and below its start
  pub values : (p v : ℕ) → StandsAt (places piece) p v → IsBetween sys g v (slice_index w.values p)
  pub held : (m v : ℕ) → StandsAt piece.mirrors m v → (slice_index_or (hand_of w) m NOTHING ≡ NOTHING) ⊎ IsBetween sys g v (slice_index_or (hand_of w) m NOTHING)
  pub pending : AllByRecursion (λ p. (v : ℕ) → StandsAt piece.mirrors p.mirror v → IsBetween sys g v p.value) (pending_posts w)
  -- the owned values of a resting worker lie below their own equations
  pub rested : IsTrue (rests w) → OwnEquationsHold sys.equations piece.owned piece.mirrors w.values
  -- what is known of a mirror is the owner's value
  pub mirrors : (m j p v : ℕ) → StandsAt piece.mirrors m v → IsOwnedAt sys.pieces j p v → known_at sys piece w m ≡ slice_index (worker_at ws j).values p
  -- a Fresh worker has the start values
  pub fresh : IsTrue (is_fresh w) → w.values ≡ starts_of sys.equations (places piece)

pub record IsFit (sys : System) (g : Assignment) (ws : BaseState) : Type 0 where
  pub workers : length ws ≡ length sys.pieces
  pub each : (i : ℕ) → i < length ws → IsFitWorker sys g ws (piece_at sys.pieces i) (worker_at ws i)
