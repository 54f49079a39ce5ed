-- Which event may follow a journal, and what it does.
use Rattle.std.specs.Prelude.{ℕ, ◌+◌, ◌-◌, ◌^◌, max, Bool, true, false, not, ◌==◌, ◌&&◌, ◌||◌, if◌then◌else◌, nat_lt, nat_le, IsTrue, List, [], ◌∷◌, ◌++◌, Option, Some, None, map, filter, flat_map, length, replicate, slice_index, slice_index_or, slice_set}
use Rattle.std.specs.List.{list_all, list_any}
use Rattle.std.specs.Option.{is_some}
use Rattle.value_order.specs.declared.order.Order.{Order}
use Rattle.graph_core.specs.Fragments.{numbers_below, piece_at}
use Rattle.grape_event.specs.declared.event.Event.{Event}
use Rattle.grape_event.specs.declared.event.Event.TheVariants.{Take, Give, Stretch, Hold, Flag, Ask, Ack, Nack, Begin, Mark, Seal, Kept, End, Stop}
use Rattle.token_cut.specs.Parts.{PartValues, SnapshotParts}
pub use Rattle.token_cut.specs.Parts.{no_part}
use Rattle.token_cut.specs.Late.{mail_lowered}
use Rattle.base_machine.specs.Machine.{System, BaseState, Post, Batch, BaseTake, BaseGive, worker_at, is_fresh, is_running, rests, batch_waits, batches_waiting, is_empty, sent_to, base_after, base_state_of, phase_of, values_for, met_posts, posts_in}
use Rattle.legal_journal.specs.Past
use Rattle.legal_journal.specs.Delays.{is_fresh_enough, delay_is_over, stretch_turns}

-- The state of a run: where it started, its journal newest first, the workers, and for each worker its round, the clocks at which batches arrived, newest first, and what the last recording has of it.
pub record State : Type 0 where
  pub start : SnapshotParts
  pub past : List Event
  pub workers : BaseState
  pub rounds : List ℕ
  pub arrivals : List (List ℕ)
  pub recorded : List PartValues

abbrev pub start_state : SnapshotParts → State
start_state s =
    record {
      start = s;
      past = [];
      workers = base_state_of s;
      rounds = replicate (length s.parts) 0;
      arrivals = replicate (length s.parts) [];
      recorded = s.parts;
    }

abbrev pub worker_count : State → ℕ
worker_count s = length s.workers

-- ---- what is admitted

-- it is this lane
abbrev pub is_lane : ℕ → Option ℕ → Bool
is_lane k None = false
is_lane k (Some l) = k == l

-- worker i is out with lane k
abbrev pub is_out_with : State → ℕ → ℕ → Bool
is_out_with s k i = is_running (worker_at s.workers i) && is_lane k (Past.lane_of i s.past)

-- a lane has its Work out while a worker that it took is Running
abbrev pub has_work_out : State → ℕ → Bool
has_work_out s k = list_any (is_out_with s k) (numbers_below (worker_count s))

-- a snapshot is due after so many Takes as the setting says, where it says some
abbrev pub snapshot_is_due : System → State → Bool
snapshot_is_due sys s =
    nat_lt 0 sys.settings.snapshot && nat_le sys.settings.snapshot (Past.takes_since_begin s.past) && nat_lt (Past.last_epoch s.start.epoch s.past) (2 ^ 62 - 1)

-- a batch of worker j that waits for i is tagged
abbrev pub tagged_batch_from : State → ℕ → ℕ → Bool
tagged_batch_from s i j = list_any (λ b. Past.is_tagged j b.number s.past) (slice_index_or (worker_at s.workers i).mail j [])

abbrev pub tagged_batch_waits : State → ℕ → Bool
tagged_batch_waits s i = list_any (tagged_batch_from s i) (numbers_below (worker_count s))

-- a recording is open, and i is not marked in it
abbrev pub is_unmarked : State → ℕ → Bool
is_unmarked s i = Past.recording_is_open s.past && not (Past.is_marked i s.past)

abbrev pub rests_without_mail : State → ℕ → Bool
rests_without_mail s i = rests (worker_at s.workers i) && not (batch_waits (worker_at s.workers i))

abbrev pub rests_with_mail : State → ℕ → Bool
rests_with_mail s i = rests (worker_at s.workers i) && batch_waits (worker_at s.workers i)

-- Worker i may take where lane k is free, it is Fresh or its mail waits and its delay is over, it is fresh enough, no snapshot is due, and it is not to be marked first.
abbrev pub may_take : System → State → ℕ → ℕ → Bool
may_take sys s i k =
    nat_lt k sys.settings.lanes && not (has_work_out s k)
    && (is_fresh (worker_at s.workers i) || (rests_with_mail s i && delay_is_over sys.settings.policy s.workers s.past i))
    && is_fresh_enough sys.settings.policy s.workers s.rounds i
    && not (snapshot_is_due sys s)
    && not (is_unmarked s i && tagged_batch_waits s i)

abbrev pub may_give : State → ℕ → Bool
may_give s i = is_running (worker_at s.workers i)

-- the least turns of a Stretch of worker i
abbrev pub stretch_from : System → State → ℕ → ℕ
stretch_from sys s i = stretch_turns sys.settings.policy (batches_waiting (worker_at s.workers i)) (slice_index_or s.arrivals i [])

abbrev pub is_stretched : State → ℕ → Bool
is_stretched s i = is_some (Past.stretch_of i s.past)

-- one Stretch between two Takes, of the least turns and up to 64 more
abbrev pub may_stretch : System → State → ℕ → ℕ → Bool
may_stretch sys s i turns =
    rests_with_mail s i && not (is_stretched s i) && nat_le (stretch_from sys s i) turns && nat_le turns (stretch_from sys s i + 64)

abbrev pub may_hold : System → State → ℕ → Bool
may_hold sys s i = is_stretched s i && not (delay_is_over sys.settings.policy s.workers s.past i)

abbrev pub may_flag : State → ℕ → Bool
may_flag s i = rests_without_mail s i && not (Past.flag_is_up i s.past)

-- all flags are up, and no probe was asked since the last Nack
abbrev pub may_ask : State → Bool
may_ask s =
    list_all (λ i. Past.flag_is_up i s.past) (numbers_below (worker_count s)) && (not (Past.was_asked s.past) || Past.nack_since_ask s.past)

abbrev pub may_answer : State → ℕ → Bool
may_answer s i = Past.probe_is_open (worker_count s) s.past && not (Past.has_answered i s.past)

abbrev pub may_ack : State → ℕ → Bool
may_ack s i = may_answer s i && rests_without_mail s i && not (Past.took_since_ask i s.past)

abbrev pub may_nack : State → ℕ → Bool
may_nack s i = may_answer s i && rests (worker_at s.workers i) && (batch_waits (worker_at s.workers i) || Past.took_since_ask i s.past)

abbrev pub may_begin : System → State → ℕ → Bool
may_begin sys s e = snapshot_is_due sys s && Past.all_begun_are_kept s.past && e == Past.last_epoch s.start.epoch s.past + 1

abbrev pub may_mark : State → ℕ → Bool
may_mark s i = is_unmarked s i && not (is_running (worker_at s.workers i))

abbrev pub may_seal : State → ℕ → Bool
may_seal s e = Past.recording_is_open s.past && Past.all_are_marked (worker_count s) s.past && e == Past.last_epoch s.start.epoch s.past

abbrev pub may_keep : State → ℕ → Bool
may_keep s e = Past.was_sealed e s.past && not (Past.was_kept e s.past)

-- every worker has answered since the last Ask, and every snapshot that was begun is kept
abbrev pub may_end : State → Bool
may_end s = Past.all_have_answered (worker_count s) s.past && Past.all_begun_are_kept s.past

abbrev pub is_worker : State → ℕ → Bool
is_worker s i = nat_lt i (worker_count s)

-- the rows of the table
abbrev pub row_admits : System → State → Event → Bool
row_admits sys s (Take i k) = is_worker s i && may_take sys s i k
row_admits sys s (Give i) = is_worker s i && may_give s i
row_admits sys s (Stretch i turns) = is_worker s i && may_stretch sys s i turns
row_admits sys s (Hold i) = is_worker s i && may_hold sys s i
row_admits sys s (Flag i) = is_worker s i && may_flag s i
row_admits sys s Ask = may_ask s
row_admits sys s (Ack i) = is_worker s i && may_ack s i
row_admits sys s (Nack i) = is_worker s i && may_nack s i
row_admits sys s (Begin e) = may_begin sys s e
row_admits sys s (Mark i) = is_worker s i && may_mark s i
row_admits sys s (Seal e) = may_seal s e
row_admits sys s (Kept e) = may_keep s e
row_admits sys s End = may_end s
row_admits sys s (Stop cause) = true

-- nothing is admitted after the end
abbrev pub is_admitted : System → State → Event → Bool
is_admitted sys s e = not (Past.has_ended s.past) && row_admits sys s e

-- ---- what an event does

-- a Take takes all mail that waits, which is every batch of every Give so far
abbrev pub workers_after : System → State → Event → BaseState
workers_after sys s (Take i k) = base_after sys s.workers (BaseTake i (Past.gives_of_each (numbers_below (worker_count s)) s.past))
workers_after sys s (Give i) = base_after sys s.workers (BaseGive i)
workers_after sys s _ = s.workers

-- worker i's Give sends a batch to worker k
abbrev pub sends_to : System → State → ℕ → ℕ → Bool
sends_to sys s i k = not (k == i) && not (is_empty (sent_to sys (piece_at sys.pieces i) (worker_at s.workers i) k))

-- A Give raises its worker's round by one. A batch to a worker that rests without mail raises that worker's round to the giver's new one.
abbrev pub round_after : System → State → ℕ → ℕ → ℕ
round_after sys s i k =
    if k == i then slice_index s.rounds k + 1
    else if sends_to sys s i k && rests_without_mail s k then max (slice_index s.rounds k) (slice_index s.rounds i + 1)
    else slice_index s.rounds k

abbrev pub rounds_after : System → State → Event → List ℕ
rounds_after sys s (Give i) = map (round_after sys s i) (numbers_below (worker_count s))
rounds_after sys s _ = s.rounds

-- each batch is an arrival, with the place of its Give as clock
abbrev pub arrivals_at : System → State → ℕ → ℕ → List ℕ
arrivals_at sys s i k = if sends_to sys s i k then length s.past ∷ slice_index_or s.arrivals k [] else slice_index_or s.arrivals k []

abbrev pub arrivals_after : System → State → Event → List (List ℕ)
arrivals_after sys s (Give i) = map (arrivals_at sys s i) (numbers_below (worker_count s))
arrivals_after sys s _ = s.arrivals

-- the mail of a recorded part, lowered by a late batch
abbrev pub mail_with : Order → ℕ → List Post → List ℕ → List ℕ
mail_with o m posts mail = mail_lowered o m (λ k. values_for k posts) mail

-- An untagged batch to a worker that is marked in an open recording is late.
abbrev pub is_late : State → ℕ → ℕ → Bool
is_late s i k = Past.recording_is_open s.past && Past.is_marked k s.past && not (Past.is_marked i s.past)

-- what is recorded of worker k after the Give of worker i
abbrev pub recorded_with_late : System → State → ℕ → ℕ → PartValues
recorded_with_late sys s i k =
    let part = slice_index_or s.recorded k no_part in
    if not (k == i) && is_late s i k
    then record part { mail = mail_with sys.equations.order 0 (sent_to sys (piece_at sys.pieces i) (worker_at s.workers i) k) part.mail }
    else part

-- of the batches of worker j that wait for i, those without a tag
abbrev pub untagged_from : State → ℕ → ℕ → List Batch
untagged_from s i j = filter (λ b. not (Past.is_tagged j b.number s.past)) (slice_index_or (worker_at s.workers i).mail j [])

-- A Mark records its worker's phase, values and untagged mail.
abbrev pub part_at_mark : System → State → ℕ → PartValues
part_at_mark sys s i =
    record {
      phase = phase_of (worker_at s.workers i);
      values = (worker_at s.workers i).values;
      mail = met_posts sys.equations.order (length (piece_at sys.pieces i).mirrors)
          ((worker_at s.workers i).start_posts ++ posts_in (flat_map (untagged_from s i) (numbers_below (worker_count s))));
    }

abbrev pub recorded_after : System → State → Event → List PartValues
recorded_after sys s (Give i) = map (recorded_with_late sys s i) (numbers_below (worker_count s))
recorded_after sys s (Mark i) = slice_set s.recorded i (part_at_mark sys s i)
recorded_after sys s _ = s.recorded

abbrev pub state_after : System → State → Event → State
state_after sys s e =
    record {
      start = s.start;
      past = e ∷ s.past;
      workers = workers_after sys s e;
      rounds = rounds_after sys s e;
      arrivals = arrivals_after sys s e;
      recorded = recorded_after sys s e;
    }

abbrev pub state_after_all : System → State → List Event → State
state_after_all sys s [] = s
state_after_all sys s (e ∷ journal) = state_after_all sys (state_after sys s e) journal

-- the state after a journal
abbrev pub state_at_end : System → SnapshotParts → List Event → State
state_at_end sys start journal = state_after_all sys (start_state start) journal

-- each event is admitted after those before it
abbrev pub are_admitted : System → State → List Event → Bool
are_admitted sys s [] = true
are_admitted sys s (e ∷ journal) = is_admitted sys s e && are_admitted sys (state_after sys s e) journal

-- the journal is legal from the start
abbrev pub IsLegal : System → SnapshotParts → List Event → Type 0
IsLegal sys start journal = IsTrue (are_admitted sys (start_state start) journal)
