-- The base machine: workers with values and named batches, that take their mail and give what they found.
use Rattle.std.specs.Prelude.{ℕ, ◌+◌, Bool, true, false, not, ◌==◌, ◌&&◌, ◌||◌, if◌then◌else◌, nat_lt, nat_le, List, [], ◌∷◌, ◌++◌, map, filter, flat_map, sum_by, length, replicate, slice_index_or, slice_set}
use Rattle.value_order.specs.declared.order.Order.{Order}
use Rattle.value_order.specs.Order.{meet_all}
use Rattle.value_order.specs.declared.TheConstants.{NOTHING}
use Rattle.graph_core.specs.declared.fragment.Route.{Route}
use Rattle.graph_core.specs.declared.settings.Settings.{Settings}
use Rattle.graph_core.specs.declared.job.Job.{Job}
use Rattle.graph_core.specs.Equations.{Equations}
use Rattle.graph_core.specs.Queries.{equations_of}
use Rattle.graph_core.specs.Fragments.{Piece, piece_at, pieces_of, numbers_below}
use Rattle.pie_core.specs.Solutions.{lowered, local_solution, starts_of}
use Rattle.token_cut.specs.declared.phase.Phase.{Phase}
use Rattle.token_cut.specs.declared.phase.Phase.TheVariants.{Fresh as FreshPhase, Rest as RestPhase}
use Rattle.token_cut.specs.Parts.{PartValues, SnapshotParts}

-- What a run is of: the equations that a program has for a job, the job's fragments and its settings.
pub record System : Type 0 where
  pub equations : Equations
  pub pieces : List Piece
  pub settings : Settings

abbrev pub system_with : Equations → Job → System
system_with e job = record { equations = e; pieces = pieces_of job; settings = job.settings }

abbrev pub system_of : Job → System
system_of job = system_with (equations_of job) job

-- ---- states

-- a value for a mirror, on its way to a worker or waiting there
pub record Post : Type 0 where
  pub mirror : ℕ
  pub value : ℕ

-- What one Give sends to one worker. Its sender is known by where it waits, and its number is that of the sender's Give, from 1.
pub record Batch : Type 0 where
  pub number : ℕ
  pub posts : List Post

-- A worker is Fresh before its first Take. Running, it has a hand: for each mirror the meet of what it took, NOTHING where it took nothing.
pub data Standing : Type 0 where
  Fresh : Standing
  Running : (hand : List ℕ) → Standing
  Rest : Standing

-- The values of its places, the number of its Gives so far, and its pending batches: the one of the start, which is empty where there is none, and for each sender those that it sent, in order.
pub record Worker : Type 0 where
  pub standing : Standing
  pub values : List ℕ
  pub gives : ℕ
  pub start_posts : List Post
  pub mail : List (List Batch)

abbrev pub BaseState : Type 0
BaseState = List Worker

-- stands for a worker past the last
abbrev pub no_worker : Worker
no_worker = record { standing = Rest; values = []; gives = 0; start_posts = []; mail = [] }

abbrev pub worker_at : BaseState → ℕ → Worker
worker_at ws i = slice_index_or ws i no_worker

abbrev pub is_fresh : Worker → Bool
is_fresh w = elim w.standing [ Fresh ↦ true | Running hand ↦ false | Rest ↦ false ]

abbrev pub is_running : Worker → Bool
is_running w = elim w.standing [ Fresh ↦ false | Running hand ↦ true | Rest ↦ false ]

abbrev pub rests : Worker → Bool
rests w = elim w.standing [ Fresh ↦ false | Running hand ↦ false | Rest ↦ true ]

abbrev pub hand_of : Worker → List ℕ
hand_of w = elim w.standing [ Fresh ↦ [] | Running hand ↦ hand | Rest ↦ [] ]

abbrev pub is_empty : {X : Type 0} → List X → Bool
is_empty [] = true
is_empty (x ∷ xs) = false

-- how many batches wait for a worker
abbrev pub batches_waiting : Worker → ℕ
batches_waiting w = (if is_empty w.start_posts then 0 else 1) + sum_by length w.mail

abbrev pub batch_waits : Worker → Bool
batch_waits w = nat_lt 0 (batches_waiting w)

-- ---- mail

-- all posts of these batches
abbrev pub posts_in : List Batch → List Post
posts_in = flat_map (λ b. b.posts)

-- the values posted to mirror m
abbrev pub values_for : ℕ → List Post → List ℕ
values_for m posts = map (λ p. p.value) (filter (λ p. p.mirror == m) posts)

-- for each of so many mirrors the meet of the values posted to it
abbrev pub met_posts : Order → ℕ → List Post → List ℕ
met_posts o mirrors posts = map (λ m. meet_all o NOTHING (values_for m posts)) (numbers_below mirrors)

-- of each sender the batches numbered at most its number in upto, and the others
abbrev pub taken_batches : List ℕ → List (List Batch) → List Batch
taken_batches [] mail = []
taken_batches (u ∷ upto) [] = []
taken_batches (u ∷ upto) (batches ∷ mail) = filter (λ b. nat_le b.number u) batches ++ taken_batches upto mail

abbrev pub left_batches : List ℕ → List (List Batch) → List (List Batch)
left_batches [] mail = mail
left_batches (u ∷ upto) [] = []
left_batches (u ∷ upto) (batches ∷ mail) = filter (λ b. nat_lt u b.number) batches ∷ left_batches upto mail

-- what is posted to worker k, where the owned values were old and are new: each value that changed, along its routes
abbrev pub posts_to : ℕ → List ℕ → List ℕ → List (List Route) → List Post
posts_to k old new [] = []
posts_to k [] new (r ∷ routes) = []
posts_to k (a ∷ old) [] (r ∷ routes) = []
posts_to k (a ∷ old) (b ∷ new) (r ∷ routes) =
    (if a == b then [] else map (λ t. record { mirror = t.mirror; value = b }) (filter (λ t. t.fragment == k) r)) ++ posts_to k old new routes

-- ---- steps

-- A worker takes the batch of the start and, of each sender j, the batches numbered at most the j-th number of upto; or a worker gives.
pub data BaseEvent : Type 0 where
  BaseTake : (worker : ℕ) (upto : List ℕ) → BaseEvent
  BaseGive : (worker : ℕ) → BaseEvent

-- a Take up to these numbers finds a batch
abbrev pub takes_a_batch : List ℕ → Worker → Bool
takes_a_batch upto w = not (is_empty w.start_posts && is_empty (taken_batches upto w.mail))

-- a resting worker takes at least one batch, a Fresh one may take none
abbrev pub is_allowed : BaseState → BaseEvent → Bool
is_allowed ws (BaseTake i upto) =
    nat_lt i (length ws) && length upto == length ws && (is_fresh (worker_at ws i) || (rests (worker_at ws i) && takes_a_batch upto (worker_at ws i)))
is_allowed ws (BaseGive i) = nat_lt i (length ws) && is_running (worker_at ws i)

-- worker w after its Take: its hand has for each mirror the meet of what it took
abbrev pub after_taking : System → Piece → List ℕ → Worker → Worker
after_taking sys piece upto w =
    record {
      standing = Running (met_posts sys.equations.order (length piece.mirrors) (w.start_posts ++ posts_in (taken_batches upto w.mail)));
      values = w.values;
      gives = w.gives;
      start_posts = [];
      mail = left_batches upto w.mail;
    }

-- the local solution of a worker's values lowered by its hand
abbrev pub values_given : System → Piece → Worker → List ℕ
values_given sys piece w = local_solution sys.equations piece.owned piece.mirrors (lowered sys.equations piece.owned w.values (hand_of w))

-- what the Give of a worker posts to worker k
abbrev pub sent_to : System → Piece → Worker → ℕ → List Post
sent_to sys piece w k = posts_to k w.values (values_given sys piece w) piece.routes

-- worker w gets posts from sender j by its Give of this number; no posts are no batch
abbrev pub after_receiving : ℕ → ℕ → List Post → Worker → Worker
after_receiving j number [] w = w
after_receiving j number (p ∷ posts) w =
    record w { mail = slice_set w.mail j (slice_index_or w.mail j [] ++ record { number = number; posts = p ∷ posts } ∷ []) }

-- worker w after its Give
abbrev pub after_giving : System → Piece → Worker → Worker
after_giving sys piece w =
    record w { standing = Rest; values = values_given sys piece w; gives = w.gives + 1 }

-- f of each worker and its number, from n on
abbrev pub each_worker_from : ℕ → (ℕ → Worker → Worker) → BaseState → BaseState
each_worker_from n f [] = []
each_worker_from n f (w ∷ ws) = f n w ∷ each_worker_from (n + 1) f ws

-- all workers after the Give of worker i, the giver: every other worker gets its batch
abbrev pub base_after_give : System → ℕ → Piece → Worker → BaseState → BaseState
base_after_give sys i piece giver ws =
    each_worker_from 0 (λ k w. if k == i then after_giving sys piece w else after_receiving i (giver.gives + 1) (sent_to sys piece giver k) w) ws

abbrev pub base_after : System → BaseState → BaseEvent → BaseState
base_after sys ws (BaseTake i upto) = slice_set ws i (after_taking sys (piece_at sys.pieces i) upto (worker_at ws i))
base_after sys ws (BaseGive i) = base_after_give sys i (piece_at sys.pieces i) (worker_at ws i) ws

abbrev pub base_after_all : System → BaseState → List BaseEvent → BaseState
base_after_all sys ws [] = ws
base_after_all sys ws (e ∷ events) = base_after_all sys (base_after sys ws e) events

-- ---- snapshots

-- the mail of a part as posts, where its first value is that of mirror m
abbrev pub posts_from : ℕ → List ℕ → List Post
posts_from m [] = []
posts_from m (x ∷ xs) = if x == NOTHING then posts_from (m + 1) xs else record { mirror = m; value = x } ∷ posts_from (m + 1) xs

abbrev pub standing_of : Phase → Standing
standing_of FreshPhase = Fresh
standing_of RestPhase = Rest

-- A worker as a part of a snapshot has it. Its mail is one batch, of the start.
abbrev pub worker_of : ℕ → PartValues → Worker
worker_of n part =
    record { standing = standing_of part.phase; values = part.values; gives = 0; start_posts = posts_from 0 part.mail; mail = replicate n [] }

abbrev pub base_state_of : SnapshotParts → BaseState
base_state_of s = map (worker_of (length s.parts)) s.parts

-- all that waits for a worker
abbrev pub pending_posts : Worker → List Post
pending_posts w = w.start_posts ++ flat_map posts_in w.mail

abbrev pub phase_of : Worker → Phase
phase_of w = if is_fresh w then FreshPhase else RestPhase

abbrev pub part_of : System → Piece → Worker → PartValues
part_of sys piece w =
    record { phase = phase_of w; values = w.values; mail = met_posts sys.equations.order (length piece.mirrors) (pending_posts w) }

abbrev pub parts_from : System → ℕ → BaseState → List PartValues
parts_from sys n [] = []
parts_from sys n (w ∷ ws) = part_of sys (piece_at sys.pieces n) w ∷ parts_from sys (n + 1) ws

-- The snapshot of a state in which nobody runs. Who runs would count as resting.
abbrev pub snapshot_of : System → BaseState → ℕ → SnapshotParts
snapshot_of sys ws epoch = record { epoch = epoch; parts = parts_from sys 0 ws }

-- the beginning: everybody is Fresh with the start values, and there is no mail
abbrev pub fresh_part : Equations → Piece → PartValues
fresh_part e piece = record { phase = FreshPhase; values = starts_of e (piece.owned ++ piece.mirrors); mail = map (λ v. NOTHING) piece.mirrors }

abbrev pub fresh_snapshot : System → SnapshotParts
fresh_snapshot sys = record { epoch = 0; parts = map (fresh_part sys.equations) sys.pieces }
