-- No round and no arrival passes the length of the journal.
use Rattle.std.proofs.Common.{◌≡◌, ℕ, zero, suc, ◌+◌, ◌<◌, ◌≤◌, Bool, true, false, ◌==◌, ◌&&◌, max, if◌then◌else◌, refl, sym, subst, arith, List, [], ◌∷◌, length, map, replicate, slice_index, slice_index_or}
use Rattle.std.specs.List.{AllByRecursion, range_with_len}
use Rattle.std.proofs.Math.Nat.{max-le}
use Rattle.grape_event.specs.declared.event.Event.{Event}
use Rattle.grape_event.specs.declared.event.Event.TheVariants.{Take, Give, Stretch, Hold, Flag, Ask, Ack, Nack, Begin, Mark, Seal, Kept, End, Stop}
use Rattle.token_cut.specs.Parts.{SnapshotParts}
use Rattle.base_machine.specs.Machine.{System}
use Rattle.legal_journal.specs.Legal.{State, start_state, worker_count, state_after, rounds_after, arrivals_after, round_after, arrivals_at, sends_to, rests_without_mail}
use Rattle.hub_engine.specs.HubValues.{HubValues}
use Rattle.hub_engine.specs.States.{machine, state_of, IsHub}
use Rattle.legal_journal.proofs.Walks.{kept_along}

-- each round is at most the journal's length, and each batch arrived before now
pub record AreInTime (s : State) : Type 0 where
  pub rounds : (k : ℕ) → slice_index s.rounds k ≤ length s.past
  pub arrivals : (k : ℕ) → AllByRecursion (λ a. a < length s.past) (slice_index_or s.arrivals k [])

-- ---- lists with a property at each place, and past the end

each_made : {X : Type 0} (P : X → Type 0) (f : ℕ → X) (a n k : ℕ) (d : X) → ((j : ℕ) → P (f j)) → P d → P (slice_index_or (map f (range_with_len a n)) k d)
each_made P f a zero k d h e = e
each_made P f a (suc n) zero d h e = h a
each_made P f a (suc n) (suc k) d h e = each_made P f (a + 1) n k d h e

each_copy : {X : Type 0} (P : X → Type 0) (n k : ℕ) (x d : X) → P x → P d → P (slice_index_or (replicate n x) k d)
each_copy P zero k x d h e = e
each_copy P (suc n) zero x d h e = h
each_copy P (suc n) (suc k) x d h e = each_copy P n k x d h e

later : (n : ℕ) (xs : List ℕ) → AllByRecursion (λ a. a < n) xs → AllByRecursion (λ a. a < suc n) xs
later n [] h = tt
later n (x ∷ xs) h = let a = h.0 in (omega (arith, a), later n xs h.1)

-- ---- one event

round_in_time : (sys : System) (s : State) (i k : ℕ) → AreInTime s → round_after sys s i k ≤ suc (length s.past)
round_in_time sys s i k t = go (k == i) (sends_to sys s i k && rests_without_mail s k)
  where
    go : (b c : Bool) → (if b then slice_index s.rounds k + 1 else if c then max (slice_index s.rounds k) (slice_index s.rounds i + 1) else slice_index s.rounds k) ≤ suc (length s.past)
    go true c = let a = t.rounds k in omega (arith, a)
    go false true = let a = t.rounds k in let b = t.rounds i in max-le (omega (arith, a)) (omega (arith, b))
    go false false = let a = t.rounds k in omega (arith, a)

arrivals_in_time : (sys : System) (s : State) (i k : ℕ) → AreInTime s → AllByRecursion (λ a. a < suc (length s.past)) (arrivals_at sys s i k)
arrivals_in_time sys s i k t = go (sends_to sys s i k)
  where
    go : (b : Bool) → AllByRecursion (λ a. a < suc (length s.past)) (if b then length s.past ∷ slice_index_or s.arrivals k [] else slice_index_or s.arrivals k [])
    go true = (omega arith, later (length s.past) (slice_index_or s.arrivals k []) (t.arrivals k))
    go false = later (length s.past) (slice_index_or s.arrivals k []) (t.arrivals k)

stays_in_time : (sys : System) (s : State) (e : Event) → rounds_after sys s e ≡ s.rounds → arrivals_after sys s e ≡ s.arrivals → AreInTime s → AreInTime (state_after sys s e)
stays_in_time sys s e er ea t =
    record {
      rounds = λ k. subst (λ (l : List ℕ). slice_index l k ≤ suc (length s.past)) (sym er) (let a = t.rounds k in omega (arith, a));
      arrivals = λ k. subst (λ (l : List (List ℕ)). AllByRecursion (λ a. a < suc (length s.past)) (slice_index_or l k [])) (sym ea) (later (length s.past) (slice_index_or s.arrivals k []) (t.arrivals k));
    }

in_time_kept : (sys : System) (s : State) (e : Event) → AreInTime s → AreInTime (state_after sys s e)
in_time_kept sys s (Give i) t =
    record {
      rounds = λ k. each_made (λ r. r ≤ suc (length s.past)) (round_after sys s i) 0 (worker_count s) k 0 (λ j. round_in_time sys s i j t) (omega arith);
      arrivals = λ k. each_made (AllByRecursion (λ a. a < suc (length s.past))) (arrivals_at sys s i) 0 (worker_count s) k [] (λ j. arrivals_in_time sys s i j t) tt;
    }
in_time_kept sys s (Take i k) t = stays_in_time sys s (Take i k) refl refl t
in_time_kept sys s (Stretch i turns) t = stays_in_time sys s (Stretch i turns) refl refl t
in_time_kept sys s (Hold i) t = stays_in_time sys s (Hold i) refl refl t
in_time_kept sys s (Flag i) t = stays_in_time sys s (Flag i) refl refl t
in_time_kept sys s Ask t = stays_in_time sys s Ask refl refl t
in_time_kept sys s (Ack i) t = stays_in_time sys s (Ack i) refl refl t
in_time_kept sys s (Nack i) t = stays_in_time sys s (Nack i) refl refl t
in_time_kept sys s (Begin e) t = stays_in_time sys s (Begin e) refl refl t
in_time_kept sys s (Mark i) t = stays_in_time sys s (Mark i) refl refl t
in_time_kept sys s (Seal e) t = stays_in_time sys s (Seal e) refl refl t
in_time_kept sys s (Kept e) t = stays_in_time sys s (Kept e) refl refl t
in_time_kept sys s End t = stays_in_time sys s End refl refl t
in_time_kept sys s (Stop c) t = stays_in_time sys s (Stop c) refl refl t

in_time_begin : (start : SnapshotParts) → AreInTime (start_state start)
in_time_begin start =
    record {
      rounds = λ k. each_copy (λ r. r ≤ 0) (length start.parts) k 0 0 (omega arith) (omega arith);
      arrivals = λ k. each_copy (AllByRecursion (λ a. a < 0)) (length start.parts) k [] [] tt tt;
    }

pub in_time : (h : HubValues) → IsHub h → AreInTime (state_of h)
in_time h hub = kept_along (machine h) AreInTime (λ s e a t. in_time_kept (machine h) s e t) h.journal.events (start_state h.start) hub.legal (in_time_begin h.start)
