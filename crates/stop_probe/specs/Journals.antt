-- A probe follows the journal.
use Rattle.std.specs.Prelude.{◌≡◌, ℕ, ◌<◌, false, not, ◌&&◌, ◌||◌, IsTrue, List, [], ◌∷◌, ◌++◌, map}
use Rattle.std.specs.List.{list_any}
use Rattle.graph_core.specs.Fragments.{numbers_below}
use Rattle.grape_event.specs.declared.event.Event.{Event}
use Rattle.grape_event.specs.declared.event.Event.TheVariants.{Take, Flag, Ask, Ack, Nack, End}
use Rattle.grape_event.specs.Events.{is_take_of}
use Rattle.base_machine.specs.Machine.{System, worker_at, rests, batch_waits}
use Rattle.legal_journal.specs.Past
use Rattle.legal_journal.specs.Legal.{State, worker_count, rests_without_mail, row_admits, is_admitted}
use Rattle.stop_probe.specs.ProbeValues.{ProbeValues}
use Rattle.stop_probe.specs.Probe.{took_since_ask, may_flag, may_ask, may_answer, may_end, new_probe, after_flag, after_ask, after_ack, after_nack, after_take}

-- the probe that a journal of n workers makes; the journal stands newest first
abbrev pub probe_of : ℕ → List Event → ProbeValues
probe_of n past =
    record {
      workers = n;
      flags = map (λ i. Past.flag_is_up i past) (numbers_below n);
      asked = Past.was_asked past;
      nacked = Past.nack_since_ask past;
      answered = map (λ i. Past.has_answered i past) (numbers_below n);
      took = map (λ i. Past.took_since_ask i past) (numbers_below n);
    }

-- five kinds of events change a probe
abbrev pub after_event : Event → ProbeValues → ProbeValues
after_event (Take i k) p = after_take i p
after_event (Flag i) p = after_flag i p
after_event Ask p = after_ask p
after_event (Ack i) p = after_ack i p
after_event (Nack i) p = after_nack i p
after_event _ p = p

-- One more event does to the probe of a journal what it does to a probe.
abbrev pub FollowsEvents : Type 0
FollowsEvents = (n : ℕ) → (probe_of n [] ≡ new_probe n) × ((past : List Event) (e : Event) → probe_of n (e ∷ past) ≡ after_event e (probe_of n past))

-- the probe of a state's journal
abbrev pub probe_at : State → ProbeValues
probe_at s = probe_of (worker_count s) s.past

-- The rows of the table are what the probe says, and what workers and snapshots say beside it.
pub record MeetsTheTable (sys : System) (s : State) : Type 0 where
  pub flag : (i : ℕ) → row_admits sys s (Flag i) ≡ (may_flag i (probe_at s) && rests_without_mail s i)
  pub ask : row_admits sys s Ask ≡ may_ask (probe_at s)
  pub ack : (i : ℕ) → row_admits sys s (Ack i) ≡ (may_answer i (probe_at s) && rests_without_mail s i && not (took_since_ask i (probe_at s)))
  pub nack : (i : ℕ) → row_admits sys s (Nack i) ≡ (may_answer i (probe_at s) && rests (worker_at s.workers i) && (batch_waits (worker_at s.workers i) || took_since_ask i (probe_at s)))
  pub end : row_admits sys s End ≡ (may_end (probe_at s) && Past.all_begun_are_kept s.past)

-- Since the last Ask a probe has seen a Take of a worker exactly where one stands in the journal.
abbrev pub TakesAreSeen : Type 0
TakesAreSeen =
    (n i : ℕ) (after before : List Event) → i < n → list_any Past.is_ask after ≡ false →
    took_since_ask i (probe_of n (after ++ Ask ∷ before)) ≡ list_any (is_take_of i) after

-- Where the table of events admits an Ack, there was an Ask, and no Take of that worker stands between the last Ask and the Ack.
abbrev pub AcksFollowNoTake : Type 0
AcksFollowNoTake =
    (sys : System) (s : State) (i : ℕ) → IsTrue (is_admitted sys s (Ack i)) →
    (after : List Event) × (before : List Event) × (s.past ≡ after ++ Ask ∷ before) × (list_any Past.is_ask after ≡ false) × (list_any (is_take_of i) after ≡ false)
