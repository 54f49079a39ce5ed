-- The round and the pulse of a desk that gets a batch.
use Rattle.std.proofs.Common.{◌≡◌, ℕ, ◌+◌, ◌<◌, Bool, true, false, not, ◌&&◌, nat_lt, max, if◌then◌else◌, refl, ◌∙◌, ap, List, [], ◌∷◌}
use Rattle.base_machine.specs.Machine.{System, Standing, Fresh, Running, Rest, Worker, Post, worker_at, is_fresh, is_running, rests, is_empty, batch_waits}
use Rattle.message_buffer.specs.BufferValues.{BufferValues}
use Rattle.message_buffer.specs.Buffers.{batches_in}
use Rattle.legal_journal.specs.Delays.{window}
use Rattle.legal_journal.specs.Legal.{State, worker_count, rests_without_mail}
use Rattle.legal_journal.proofs.Journals.{AreCounted}
use Rattle.delay_stretch.proofs.Windows.{window-follows}
use Rattle.hub_engine.specs.declared.desk.Desk.{Desk}
use Rattle.hub_engine.specs.declared.desk.Seat.{Seat}
use Rattle.hub_engine.specs.declared.desk.Seat.TheVariants.{Here, Out}
use Rattle.hub_engine.specs.declared.sender.Sender.{Sender}
use Rattle.hub_engine.specs.Desks.{DeskFits, SeatFits, rests_at, has_mail}
use Rattle.hub_engine.specs.Posting.{with_batch_of}
use Rattle.hub_engine.proofs.Classes.{batches_by_class}

-- ---- a worker that rests without mail

module _ (sys : System) (s : State) (counters i : ℕ) (d : Desk) (counted : AreCounted (worker_count s) s) (inside : i < worker_count s) (f : DeskFits sys s counters i d) where
  abbrev w : Worker
  w = worker_at s.workers i

  rests_is : rests_at d ≡ rests w
  rests_is = go d.seat f.seat
    where
      not_fresh : (x : Standing) → is_running (record (worker_at s.workers i) { standing = x }) ≡ false → not (is_fresh (record (worker_at s.workers i) { standing = x })) ≡ rests (record (worker_at s.workers i) { standing = x })
      not_fresh Fresh h = refl
      not_fresh (Running hand) h = cc
      not_fresh Rest h = refl

      not_out : (x : Standing) → is_running (record (worker_at s.workers i) { standing = x }) ≡ true → false ≡ rests (record (worker_at s.workers i) { standing = x })
      not_out Fresh h = refl
      not_out (Running hand) h = refl
      not_out Rest h = cc

      go : (seat : Seat) → SeatFits sys s counters i seat → elim seat [ Here fresh local hand ↦ not fresh | Out lane place ↦ false ] ≡ rests (worker_at s.workers i)
      go (Here fresh local hand) k = ap not k.1 ∙ not_fresh (worker_at s.workers i).standing k.0
      go (Out lane place) k = not_out (worker_at s.workers i).standing k.0

  mail_is : has_mail d ≡ batch_waits w
  mail_is = ap (λ (b : BufferValues). nat_lt 0 (batches_in b)) f.buffer ∙ ap (λ n. nat_lt 0 n) (batches_by_class sys s i counted inside)

  pub rests_here : (rests_at d && not (has_mail d)) ≡ rests_without_mail s i
  rests_here = ap (λ b. b && not (has_mail d)) rests_is ∙ ap (λ b. rests w && not b) mail_is

-- ---- a batch, or none

pub round_received : (sender : Sender) (posts : List Post) (d : Desk) (round before : ℕ) (same resting : Bool) → same ≡ false → d.round ≡ round → sender.round ≡ before + 1 → (rests_at d && not (has_mail d)) ≡ resting →
    (with_batch_of sender posts d).round ≡ (if same then round + 1 else if (not same && not (is_empty posts)) && resting then max round (before + 1) else round)
round_received sender posts d round before true resting apart same_round sent rest = cc
round_received sender [] d round before false resting apart same_round sent rest = same_round
round_received sender (p ∷ posts) d round before false resting apart same_round sent rest =
    ap (λ b. if b then max d.round sender.round else d.round) rest ∙ (ap (λ r. if resting then max r sender.round else r) same_round ∙ ap (λ r. if resting then max round r else round) sent)

pub pulse_received : (sender : Sender) (posts : List Post) (d : Desk) (arrivals : List ℕ) (same : Bool) → same ≡ false → d.pulse ≡ window arrivals →
    (with_batch_of sender posts d).pulse ≡ window (if not same && not (is_empty posts) then sender.place ∷ arrivals else arrivals)
pulse_received sender posts d arrivals true apart pulse = cc
pulse_received sender [] d arrivals false apart pulse = pulse
pulse_received sender (p ∷ posts) d arrivals false apart pulse = ap (λ l. window (sender.place ∷ l)) pulse ∙ window-follows sender.place arrivals
