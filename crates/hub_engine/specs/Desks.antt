-- What the hub keeps of a worker, against the state after its journal.
use Rattle.std.specs.Prelude.{◌≡◌, ℕ, ◌+◌, ◌*◌, ◌<◌, ◌≤◌, ◌++◌, Bool, IsTrue, true, false, not, ◌&&◌, ◌||◌, max, nat_lt, List, [], ◌∷◌, Option, Some, None, IsSome, ⊤, map, filter, flat_map, length, take, slice_get, slice_index, slice_index_or, if◌then◌else◌}
use Rattle.std.specs.List.{list_any}
use Rattle.graph_core.specs.declared.fragment.Route.{Route}
use Rattle.graph_core.specs.Fragments.{Piece, piece_at, places, numbers_below}
use Rattle.grape_event.specs.declared.event.Event.{Event}
use Rattle.grape_event.specs.Events.{is_take_of}
use Rattle.token_cut.specs.Parts.{part_at}
use Rattle.token_cut.specs.Shapes.{sizes_of}
use Rattle.token_cut.specs.CutValues.{CutValues}
use Rattle.token_cut.specs.Recording.{is_marked, after_mark}
use Rattle.token_cut.specs.declared.phase.Phase.{Phase}
use Rattle.token_cut.specs.declared.phase.Phase.TheVariants.{Fresh as FreshPhase, Rest as RestPhase}
use Rattle.message_buffer.specs.BufferValues.{BufferValues}
use Rattle.message_buffer.specs.HandValues.{HandValues}
use Rattle.message_buffer.specs.Posted.{same_class}
use Rattle.message_buffer.specs.Buffers.{batches_in, with_batch, all_waiting, emptied, folded}
use Rattle.pie_core.specs.Locals.{LocalValues}
use Rattle.base_machine.specs.Machine.{System, Batch, worker_at, is_fresh, is_running, is_empty, met_posts, posts_in}
use Rattle.legal_journal.specs.Past.{lane_of, stretch_of, is_tagged, recording_is_open, last_epoch, takes_since_begin}
use Rattle.legal_journal.specs.Past.{is_marked as was_marked}
use Rattle.legal_journal.specs.Delays.{window}
use Rattle.legal_journal.specs.Legal.{State, worker_count, no_part}
use Rattle.legal_journal.specs.Choices.{first_in_turn}
use Rattle.stop_probe.specs.ProbeValues.{ProbeValues}
use Rattle.stop_probe.specs.Journals.{probe_at}
use Rattle.hub_engine.specs.declared.counts.Counts.{Counts}
use Rattle.hub_engine.specs.declared.desk.Delay.{Delay}
use Rattle.hub_engine.specs.declared.desk.Desk.{Desk}
use Rattle.hub_engine.specs.declared.desk.Seat.{Seat}
use Rattle.hub_engine.specs.declared.desk.Seat.TheVariants.{Here, Out}
use Rattle.hub_engine.specs.declared.sender.Sender.{Sender}
use Rattle.hub_engine.specs.States.{take_place, sealed_epoch}

-- the batches of all senders that wait for worker i in a class: the tagged ones, or the others
abbrev pub waiting_in_class : Bool → State → ℕ → List Batch
waiting_in_class tagged s i = flat_map (λ j. filter (λ b. same_class tagged (is_tagged j b.number s.past)) (slice_index_or (worker_at s.workers i).mail j [])) (numbers_below (length s.workers))

-- A buffer with the mail of worker i. The batch of the start is untagged.
abbrev pub buffer_of : System → State → ℕ → BufferValues
buffer_of sys s i =
    let mirrors = length (piece_at sys.pieces i).mirrors in
    let begun = (worker_at s.workers i).start_posts in
    record {
      order = sys.equations.order;
      plain = met_posts sys.equations.order mirrors (begun ++ posts_in (waiting_in_class false s i));
      tagged = met_posts sys.equations.order mirrors (posts_in (waiting_in_class true s i));
      plain_batches = (if is_empty begun then 0 else 1) + length (waiting_in_class false s i);
      tagged_batches = length (waiting_in_class true s i);
    }

-- the sizes of a fragment: for each owned place a value before and its counters, and in the hand a value for each mirror
pub record HasSizes (piece : Piece) (counters : ℕ) (before counts : List ℕ) (hand : List ℕ) : Type 0 where
  pub owned : length before ≡ length piece.owned
  pub room : length counts ≡ length piece.owned * counters
  pub mirrors : length hand ≡ length piece.mirrors

-- The seat of worker i: its values are here, or it is out with the lane that took it.
abbrev pub SeatFits : System → State → ℕ → ℕ → Seat → Type 0
SeatFits sys s counters i (Here fresh local hand) =
    (is_running (worker_at s.workers i) ≡ false)
    × (fresh ≡ is_fresh (worker_at s.workers i))
    × (local.values ≡ (worker_at s.workers i).values)
    × (local.before ≡ take (length (piece_at sys.pieces i).owned) (worker_at s.workers i).values)
    × (hand.order ≡ sys.equations.order)
    × HasSizes (piece_at sys.pieces i) counters local.before local.counters hand.values
SeatFits sys s counters i (Out lane place) =
    (is_running (worker_at s.workers i) ≡ true) × (lane_of i s.past ≡ Some lane) × (take_place i s.past ≡ Some place)

-- the turns of a Stretch, and its place
abbrev pub turns_and_place : Option Delay → Option (ℕ × ℕ)
turns_and_place None = None
turns_and_place (Some delay) = Some (delay.turns, delay.place)

-- there is a Take of i
abbrev pub has_taken : ℕ → List Event → Bool
has_taken i past = list_any (is_take_of i) past

pub record DeskFits (sys : System) (s : State) (counters i : ℕ) (d : Desk) : Type 0 where
  pub seat : SeatFits sys s counters i d.seat
  pub delay : stretch_of i s.past ≡ turns_and_place d.delay
  pub round : d.round ≡ slice_index s.rounds i
  pub pulse : d.pulse ≡ window (slice_index_or s.arrivals i [])
  pub buffer : d.buffer ≡ buffer_of sys s i
  -- whether it took in this journal
  pub begun : d.begun ≡ has_taken i s.past

-- The recording shows the state: whether it is open and, while it is, its epoch, who is marked, and what is recorded of the marked ones.
pub record CutFits (sys : System) (s : State) (cut : CutValues) : Type 0 where
  pub order : cut.order ≡ sys.equations.order
  -- where snapshots are asked for
  pub sizes : 1 ≤ sys.settings.snapshot → sizes_of cut.parts ≡ map (λ piece. (length (places piece), length piece.mirrors)) sys.pieces
  pub asked : IsTrue cut.recording → 1 ≤ sys.settings.snapshot
  pub recording : cut.recording ≡ recording_is_open s.past
  pub epoch : IsTrue cut.recording → cut.epoch ≡ last_epoch s.start.epoch s.past
  pub marks : IsTrue cut.recording → length cut.marked ≡ worker_count s
  pub marked : IsTrue cut.recording → (i : ℕ) → i < worker_count s → is_marked i cut ≡ was_marked i s.past
  pub parts : IsTrue cut.recording → (i : ℕ) → i < worker_count s → IsTrue (was_marked i s.past) → part_at i cut.parts ≡ slice_index_or s.recorded i no_part

-- How far the snapshots have come: the last epoch, how many Takes followed its Begin, and the epoch that is sealed and not kept yet.
pub record CountsFit (s : State) (counts : Counts) : Type 0 where
  pub epoch : counts.epoch ≡ last_epoch s.start.epoch s.past
  pub takes : counts.takes ≡ takes_since_begin s.past
  pub sealed : counts.sealed ≡ sealed_epoch s.past

-- What a hub holds beside its job and its journal.
pub record Tables : Type 0 where
  pub routes : List (List (List Route))
  pub desks : List Desk
  pub probe : ProbeValues
  pub cut : CutValues
  pub counts : Counts
  pub turn : ℕ

-- The hub's tables show the state: the routes of each piece, a desk for each worker, the probe, the recording, and whose turn it is.
pub record TablesFit (sys : System) (s : State) (counters : ℕ) (t : Tables) : Type 0 where
  pub are_routes : t.routes ≡ map (λ piece. piece.routes) sys.pieces
  pub count : length t.desks ≡ worker_count s
  pub is_probe : t.probe ≡ probe_at s
  pub is_cut : CutFits sys s t.cut
  pub are_counts : CountsFit s t.counts
  pub is_turn : t.turn ≡ first_in_turn (worker_count s) s.past
  pub fit : (i : ℕ) (d : Desk) → slice_get t.desks i ≡ Some d → DeskFits sys s counters i d

-- ---- what a desk shows

abbrev pub is_fresh_at : Desk → Bool
is_fresh_at d = elim d.seat [ Here fresh local hand ↦ fresh | Out lane place ↦ false ]

abbrev pub rests_at : Desk → Bool
rests_at d = elim d.seat [ Here fresh local hand ↦ not fresh | Out lane place ↦ false ]

-- the worker is out
abbrev pub is_out : Desk → Bool
is_out d = elim d.seat [ Here fresh local hand ↦ false | Out lane place ↦ true ]

abbrev pub has_mail : Desk → Bool
has_mail d = nat_lt 0 (batches_in d.buffer)

-- a batch waits for it, or it is fresh or out
abbrev pub is_busy_at : Desk → Bool
is_busy_at d = is_fresh_at d || is_out d || has_mail d

-- ---- what comes to a desk

-- One batch more, of this Give: a worker that rests without mail catches up with the round that the giver begins then.
abbrev pub with_arrival : Sender → Desk → Desk
with_arrival sender d =
    record {
      seat = d.seat;
      delay = d.delay;
      round = if rests_at d && not (has_mail d) then max d.round sender.round else d.round;
      pulse = window (sender.place ∷ d.pulse);
      buffer = with_batch sender.tagged d.buffer;
      begun = d.begun;
    }

-- ---- where the values are

-- the values are here, or they were given up
abbrev pub IsHereOr : Seat → Option LocalValues → Type 0
IsHereOr (Here fresh local hand) given = ⊤
IsHereOr (Out lane place) given = IsSome given

-- the values that are here, or that were given up
abbrev pub HasLocalOr : Seat → Option LocalValues → LocalValues → Type 0
HasLocalOr (Here fresh local hand) given values = values ≡ local
HasLocalOr (Out lane place) given values = given ≡ Some values

-- all values are here, or were given up
abbrev pub AreHereOr : List Desk → List (Option LocalValues) → Type 0
AreHereOr [] [] = ⊤
AreHereOr [] (g ∷ given) = ⊥
AreHereOr (d ∷ desks) [] = ⊥
AreHereOr (d ∷ desks) (g ∷ given) = IsHereOr d.seat g × AreHereOr desks given

abbrev pub HaveLocalsOr : List Desk → List (Option LocalValues) → List LocalValues → Type 0
HaveLocalsOr [] given [] = ⊤
HaveLocalsOr [] given (local ∷ locals) = ⊥
HaveLocalsOr (d ∷ desks) [] locals = ⊥
HaveLocalsOr (d ∷ desks) (g ∷ given) [] = ⊥
HaveLocalsOr (d ∷ desks) (g ∷ given) (local ∷ locals) = HasLocalOr d.seat g local × HaveLocalsOr desks given locals

-- the values are here, and the hand fits the buffer
abbrev pub HandFits : Desk → Seat → Type 0
HandFits d (Here fresh local hand) = (hand.order ≡ d.buffer.order) × (length hand.values ≡ length d.buffer.plain)
HandFits d (Out lane place) = ⊥

-- the desk of a worker that was taken by a lane
abbrev pub taken_desk : ℕ → ℕ → Desk → Desk
taken_desk lane place d = record { seat = Out lane place; delay = None; round = d.round; pulse = d.pulse; buffer = emptied d.buffer; begun = true }

-- What a lane takes from a desk: whether this is the worker's first Take, its values, and a hand with all mail that waits; and what it leaves.
abbrev pub TakesFrom : Desk → Seat → ℕ → ℕ → Bool × LocalValues × HandValues → Desk → Type 0
TakesFrom old (Here fresh local hand) lane place taken new =
    (taken.0 ≡ not old.begun) × (taken.1 ≡ local) × (taken.2 ≡ record { order = old.buffer.order; values = all_waiting old.buffer })
    × (new ≡ taken_desk lane place old)
TakesFrom old (Out from at) lane place taken new = ⊥

-- the desk of a worker that gave
abbrev pub rested_desk : ℕ → LocalValues → HandValues → Desk → Desk
rested_desk round local hand d = record { seat = Here false local hand; delay = d.delay; round = round; pulse = d.pulse; buffer = d.buffer; begun = d.begun }

-- the desk of a worker whose mail has lost its tokens
abbrev pub folded_desk : Desk → Desk
folded_desk d = record { seat = d.seat; delay = d.delay; round = d.round; pulse = d.pulse; buffer = folded d.buffer; begun = d.begun }

-- ---- what is recorded

-- the phase of a worker whose values are here, by whether it is fresh
abbrev pub phase_by : Bool → Phase
phase_by true = FreshPhase
phase_by false = RestPhase

-- worker k may be marked: a recording is open, and its values are here, with the sizes of what is recorded
abbrev pub MayRecordFrom : Seat → Desk → ℕ → CutValues → Type 0
MayRecordFrom (Here fresh local hand) d k cut =
    (k < length cut.parts) × IsTrue cut.recording × (is_marked k cut ≡ false) × (length local.values ≡ length (part_at k cut.parts).values) × (length d.buffer.plain ≡ length (part_at k cut.parts).mail)
MayRecordFrom (Out lane place) d k cut = ⊥

abbrev pub MayRecord : Desk → ℕ → CutValues → Type 0
MayRecord d k cut = MayRecordFrom d.seat d k cut

abbrev pub RecordsFrom : Seat → Desk → ℕ → CutValues → CutValues → Type 0
RecordsFrom (Here fresh local hand) d k old new = new ≡ after_mark k (record { phase = phase_by fresh; values = local.values; mail = d.buffer.plain }) old
RecordsFrom (Out lane place) d k old new = ⊥

abbrev pub Records : Desk → ℕ → CutValues → CutValues → Type 0
Records d k old new = RecordsFrom d.seat d k old new
