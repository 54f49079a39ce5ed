-- What a hub's Mark leaves.
use Rattle.std.proofs.Common.{◌≡◌, ℕ, ◌<◌, ◌≤◌, Bool, true, false, not, ◌&&◌, if◌then◌else◌, IsTrue, refl, sym, ◌∙◌, ap, arith, List, length, map, slice_get, slice_index_or, Some}
use Rattle.std.proofs.lemmas.Bool.{and_parts, not-true, false≢true}
use Rattle.std.proofs.lemmas.List.{length-map, get_or-map}
use Rattle.std.proofs.lemmas.List.FromFn.{length-range_with_len}
use Rattle.std.proofs.lemmas.Option.{slice_get_within}
use Rattle.graph_core.specs.Fragments.{Piece, no_piece, piece_at, places, numbers_below}
use Rattle.grape_event.specs.declared.event.Event.TheVariants.{Mark}
use Rattle.message_buffer.specs.BufferValues.{BufferValues}
use Rattle.token_cut.specs.declared.phase.Phase.TheVariants.{Fresh as FreshPhase, Rest as RestPhase}
use Rattle.token_cut.specs.Parts.{PartValues, part_at}
use Rattle.token_cut.specs.Shapes.{size_of, sizes_of}
use Rattle.token_cut.specs.CutValues.{CutValues}
use Rattle.token_cut.specs.Recording.{after_mark}
use Rattle.base_machine.specs.Machine.{Worker, worker_at, is_fresh, is_running}
use Rattle.legal_journal.specs.Past.{has_ended, recording_is_open}
use Rattle.legal_journal.specs.Past.{is_marked as was_marked}
use Rattle.legal_journal.specs.Legal.{start_state, worker_count, is_worker, is_admitted, is_unmarked, may_mark, part_at_mark}
use Rattle.legal_journal.proofs.Walks.{kept_along}
use Rattle.legal_journal.proofs.Probes.{same_count, start_length}
use Rattle.legal_journal.proofs.Cutting.{recorded_length}
use Rattle.hub_engine.specs.declared.desk.Desk.{Desk}
use Rattle.hub_engine.specs.declared.desk.Seat.{Seat}
use Rattle.hub_engine.specs.declared.desk.Seat.TheVariants.{Here, Out}
use Rattle.hub_engine.specs.HubValues.{HubValues}
use Rattle.hub_engine.specs.States.{machine, state_of, workers_of, events_owed, IsHub}
use Rattle.hub_engine.specs.Desks.{SeatFits, Tables, TablesFit, phase_by, MayRecord, MayRecordFrom, Records, RecordsFrom}
use Rattle.hub_engine.specs.Calls.{Appended}
use Rattle.hub_engine.proofs.Begins.{mark_fits, marked_in}
use Rattle.hub_engine.proofs.Formed.{formed}
use Rattle.hub_engine.proofs.Hubs.{counted_of, piece_count, workers_are, zipped_length, hub_grown}
use Rattle.hub_engine.proofs.Takings.{moved}

-- a part is recorded for each worker
pub recorded_count : (h : HubValues) → IsHub h → length (state_of h).recorded ≡ worker_count (state_of h)
recorded_count h hub =
    let n = length h.start.parts in
    let k = kept_along (machine h) (λ s. (worker_count s ≡ n) × (length s.recorded ≡ n)) (λ s e a p. (same_count (machine h) s e ∙ p.0, recorded_length n (machine h) s e p.0 p.1)) h.journal.events (start_state h.start) hub.legal (start_length h.start, refl) in
    k.1 ∙ sym k.0

-- a worker that is admitted to be marked isn't out, and isn't marked in the open recording
pub mark_row : (h : HubValues) (i : ℕ) → is_admitted (machine h) (state_of h) (Mark i) ≡ true →
    (recording_is_open (state_of h).past ≡ true) × (was_marked i (state_of h).past ≡ false) × (is_running (worker_at (workers_of h) i) ≡ false)
mark_row h i a =
    let s = state_of h in
    let row = (and_parts (is_worker s i) (may_mark s i) (and_parts (not (has_ended s.past)) (is_worker s i && may_mark s i) a).1).1 in
    let parts = and_parts (is_unmarked s i) (not (is_running (worker_at s.workers i))) row in
    let open_and = and_parts (recording_is_open s.past) (not (was_marked i s.past)) parts.0 in
    (open_and.0, not-true (was_marked i s.past) open_and.1, not-true (is_running (worker_at s.workers i)) parts.1)

part_size_at : (parts : List PartValues) (pieces : List Piece) (i : ℕ) → sizes_of parts ≡ map (λ piece. (length (places piece), length piece.mirrors)) pieces → i < length pieces →
    size_of (part_at i parts) ≡ (length (places (slice_index_or pieces i no_piece)), length (slice_index_or pieces i no_piece).mirrors)
part_size_at parts pieces i h l =
    let f : Piece → ℕ × ℕ = λ piece. (length (places piece), length piece.mirrors) in
    let a = length-map parts size_of in
    let b = length-map pieces f in
    let c = ap (λ (l : List (ℕ × ℕ)). length l) h in
    sym (get_or-map size_of parts i _ (0, 0) (omega (arith, a, b, c, l))) ∙ (ap (λ (l : List (ℕ × ℕ)). slice_index_or l i (0, 0)) h ∙ get_or-map f pieces i no_piece (0, 0) l)

same_phase : (b : Bool) → phase_by b ≡ (if b then FreshPhase else RestPhase)
same_phase true = refl
same_phase false = refl

module _ (h : HubValues) (t : Tables) (i : ℕ) (d : Desk) (hub : IsHub h) (fits : TablesFit (machine h) (state_of h) h.counters t) (here : slice_get t.desks i ≡ Some d) (a : is_admitted (machine h) (state_of h) (Mark i) ≡ true) where
  row : (recording_is_open (state_of h).past ≡ true) × (was_marked i (state_of h).past ≡ false) × (is_running (worker_at (workers_of h) i) ≡ false)
  row = mark_row h i a

  inside : i < worker_count (state_of h)
  inside = let l = slice_get_within t.desks i d here in let c = fits.count in omega (arith, l, c)

  on : IsTrue t.cut.recording
  on = fits.is_cut.recording ∙ row.0

  pieces_count : length (machine h).pieces ≡ worker_count (state_of h)
  pieces_count = piece_count h ∙ sym (workers_are h hub)

  parts_count : length t.cut.parts ≡ worker_count (state_of h)
  parts_count =
      let x = length-map t.cut.parts size_of in
      let y = length-map {B = ℕ × ℕ} (machine h).pieces (λ (piece : Piece). (length (places piece), length piece.mirrors)) in
      let z = ap (λ (l : List (ℕ × ℕ)). length l) (fits.is_cut.sizes (fits.is_cut.asked on)) in
      let p = pieces_count in
      omega (arith, x, y, z, p)

  size_there : size_of (part_at i t.cut.parts) ≡ (length (places (piece_at (machine h).pieces i)), length (piece_at (machine h).pieces i).mirrors)
  size_there = part_size_at t.cut.parts (machine h).pieces i (fits.is_cut.sizes (fits.is_cut.asked on)) (let p = pieces_count in let l = inside in omega (arith, p, l))

  values_count : length (worker_at (workers_of h) i).values ≡ length (places (piece_at (machine h).pieces i))
  values_count = zipped_length _ (worker_at (workers_of h) i).values _ (formed h hub i inside).values ∙ length-map (places (piece_at (machine h).pieces i)) (machine h).equations.start

  mail_count : length d.buffer.plain ≡ length (piece_at (machine h).pieces i).mirrors
  mail_count =
      ap (λ (b : BufferValues). length b.plain) (fits.fit i d here).buffer
      ∙ (length-map (numbers_below (length (piece_at (machine h).pieces i).mirrors)) _ ∙ length-range_with_len 0 (length (piece_at (machine h).pieces i).mirrors))

  pub may_record : MayRecord d i t.cut
  may_record = go d.seat (fits.fit i d here).seat
    where
      go : (seat : Seat) → SeatFits (machine h) (state_of h) h.counters i seat → MayRecordFrom seat d i t.cut
      go (Here fresh local hand) k = (
        (let p = parts_count in let l = inside in omega (arith, p, l)),
        on,
        fits.is_cut.marked on i inside ∙ row.1,
        ap (λ (l : List ℕ). length l) k.2 ∙ (values_count ∙ sym (ap (λ (z : ℕ × ℕ). z.0) size_there)),
        mail_count ∙ sym (ap (λ (z : ℕ × ℕ). z.1) size_there),
      )
      go (Out lane place) k = absurd (false≢true (sym row.2 ∙ k.0))

  -- what is recorded is what the machine says
  pub recorded_is : (new : CutValues) → Records d i t.cut new → new ≡ after_mark i (part_at_mark (machine h) (state_of h) i) t.cut
  recorded_is new r = go d.seat (fits.fit i d here).seat r
    where
      w : Worker
      w = worker_at (workers_of h) i

      go : (seat : Seat) → SeatFits (machine h) (state_of h) h.counters i seat → RecordsFrom seat d i t.cut new → new ≡ after_mark i (part_at_mark (machine h) (state_of h) i) t.cut
      go (Here fresh local hand) k r =
          let p = ap phase_by k.1 ∙ same_phase (is_fresh w) in
          let v = k.2 in
          let m = ap (λ (b : BufferValues). b.plain) (fits.fit i d here).buffer in
          r ∙ λ j. after_mark i (record { phase = p j; values = v j; mail = m j }) t.cut
      go (Out lane place) k r = absurd r

  module _ (new : HubValues) (more : Appended h (Mark i) new) where
    pub marked_hub : events_owed (state_of h) ≤ new.journal.spare → IsHub new
    marked_hub room = hub_grown h new (Mark i) more hub a (λ q. room)

    pub marked_tables : TablesFit (machine new) (state_of new) h.counters (marked_in i (part_at_mark (machine h) (state_of h) i) t)
    marked_tables =
        moved h new (Mark i) (marked_in i (part_at_mark (machine h) (state_of h) i) t) more
        (mark_fits (machine h) (state_of h) h.counters t i (part_at_mark (machine h) (state_of h) i) (counted_of h hub) fits inside (sym (recorded_count h hub)) row.0 row.1 refl parts_count
        (sizes_are ∙ sym size_there))
      where
        sizes_are : size_of (part_at_mark (machine h) (state_of h) i) ≡ (length (places (piece_at (machine h).pieces i)), length (piece_at (machine h).pieces i).mirrors)
        sizes_are =
            let m : length (part_at_mark (machine h) (state_of h) i).mail ≡ length (piece_at (machine h).pieces i).mirrors = length-map (numbers_below (length (piece_at (machine h).pieces i).mirrors)) _ ∙ length-range_with_len 0 (length (piece_at (machine h).pieces i).mirrors) in
            let v = values_count in
            λ j. (v j, m j)
