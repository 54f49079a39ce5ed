-- Which notes an event leaves as they are.
use Rattle.std.proofs.Common.{◌≡◌, ℕ, zero, suc, ◌+◌, ◌<◌, ◌⊎◌, inl, inr, Bool, true, false, not, ◌==◌, nat_lt, if◌then◌else◌, IsTrue, refl, sym, ◌∙◌, ap, subst, arith, List, [], ◌∷◌, ◌++◌, append-nil, reverse, flat_map, replicate, slice_index_or}
use Rattle.std.specs.Bool.{⊤}
use Rattle.std.specs.List.{range_with_len}
use Rattle.std.proofs.lemmas.Bool.{and_parts, eqb-true, cases_Bool, false≢true}
use Rattle.graph_core.specs.declared.job.Job.{Job}
use Rattle.graph_core.specs.Fragments.{numbers_below}
use Rattle.grape_event.specs.declared.event.Event.{Event}
use Rattle.grape_event.specs.declared.event.Event.TheVariants.{Take, Give, Stretch, Hold, Flag, Ask, Ack, Nack, Begin, Mark, Seal, Kept, End, Stop}
use Rattle.grape_event.specs.declared.event.StopCause.TheVariants.{Disk, Memory}
use Rattle.token_cut.specs.Parts.{SnapshotParts}
use Rattle.base_machine.specs.Machine.{System, worker_at, is_running}
use Rattle.legal_journal.specs.Past.{lane_of, has_ended}
use Rattle.legal_journal.specs.Legal.{State, start_state, state_after, row_admits, is_admitted, worker_count, is_lane, is_out_with}
use Rattle.legal_journal.specs.Cuts.{snapshots_from}
use Rattle.legal_journal.proofs.Probes.{both, same_count}
use Rattle.hub_engine.specs.HubValues.{HubValues}
use Rattle.hub_engine.specs.States.{machine, state_of, sealed_epoch, IsHub}
use Rattle.hub_engine.specs.Calls.{Appended, Unchanged, Begins, is_seal}
use Rattle.hub_engine.proofs.Hubs.{state_grown, ended_is}
use Rattle.hub_engine.proofs.Ready.{with_event}
use Rattle.grape_hub.specs.declared.lane_record.LaneRecord.{LaneRecord}
use Rattle.grape_hub.specs.LanedHub.{LanedHub, lane_at, no_record, new_lanes}
use Rattle.grape_hub.specs.Notes.{ground_of, or_zero, listed, numbers_of_record, numbers_of_work, numbers_out, lane_part, is_stopped_by_disk, numbers_of_cuts, coordinator_part, note_of, OthersStay}
use Rattle.grape_hub.proofs.Staying.{touches, Stays, stays, hand_same, not_taken, other_out, giver_out, taker_out, by_lane, same_lane, from_not}

-- ---- whose an event is

-- The event is one of this lane in this state: a Take of its own, the Give of a worker that is out with it, or one that is in no note.
abbrev pub IsEventOf : ℕ → State → Event → Type 0
IsEventOf lane s (Take i k) = k ≡ lane
IsEventOf lane s (Give i) = is_out_with s lane i ≡ true
IsEventOf lane s (Seal e) = ⊥
IsEventOf lane s (Kept e) = ⊥
IsEventOf lane s (Stop cause) = ⊥
IsEventOf lane s _ = ⊤

abbrev pub IsLaneEvent : ℕ → LanedHub → Event → Type 0
IsLaneEvent lane old e = IsEventOf lane (state_of old.hub) e

-- the event is one of the coordinator
abbrev pub IsDutyEvent : Event → Type 0
IsDutyEvent (Seal e) = ⊤
IsDutyEvent End = ⊤
IsDutyEvent (Begin e) = ⊤
IsDutyEvent Ask = ⊤
IsDutyEvent (Kept e) = ⊤
IsDutyEvent (Stop cause) = ⊤
IsDutyEvent _ = ⊥

-- the coordinator's note has nothing of the event
abbrev IsPlain : Event → Type 0
IsPlain (Seal e) = ⊥
IsPlain (Kept e) = ⊥
IsPlain (Stop Disk) = ⊥
IsPlain _ = ⊤

lane_is_plain : (lane : ℕ) (s : State) (e : Event) → IsEventOf lane s e → IsPlain e
lane_is_plain lane s (Seal e) h = absurd h
lane_is_plain lane s (Kept e) h = absurd h
lane_is_plain lane s (Stop cause) h = absurd h
lane_is_plain lane s _ h = tt

pub duty_is_still : (i : ℕ) (e : Event) → IsDutyEvent e → touches i e ≡ false
duty_is_still i (Take j k) h = absurd h
duty_is_still i (Give j) h = absurd h
duty_is_still i _ h = refl

-- ---- the coordinator's part

-- an event that is no Seal seals nothing
pub sealed_more : (sys : System) (e : Event) → is_seal e ≡ false → (journal : List Event) (s : State) → snapshots_from sys s (journal ++ e ∷ []) ≡ snapshots_from sys s journal
sealed_more sys e p [] s = none e p
  where
    none : (e : Event) → is_seal e ≡ false → snapshots_from sys s (e ∷ []) ≡ []
    none (Seal d) p = absurd (false≢true (sym p))
    none _ p = refl
sealed_more sys e p (Seal d ∷ journal) s = ap (λ (cuts : List SnapshotParts). record { epoch = d; parts = s.recorded } ∷ cuts) (sealed_more sys e p journal (state_after sys s (Seal d)))
sealed_more sys e p (x ∷ journal) s = sealed_more sys e p journal (state_after sys s x)

plain_seals_none : (e : Event) → IsPlain e → is_seal e ≡ false
plain_seals_none (Seal d) p = absurd p
plain_seals_none _ p = refl

sealed_same : (e : Event) → IsPlain e → (past : List Event) → sealed_epoch (e ∷ past) ≡ sealed_epoch past
sealed_same (Seal d) p past = absurd p
sealed_same (Kept d) p past = absurd p
sealed_same _ p past = refl

no_disk : (e : Event) → IsPlain e → (past : List Event) → is_stopped_by_disk (e ∷ past) ≡ false
no_disk (Stop Disk) p past = absurd p
no_disk (Stop Memory) p past = refl
no_disk _ p past = refl

going_no_disk : (past : List Event) → has_ended past ≡ false → is_stopped_by_disk past ≡ false
going_no_disk [] h = refl
going_no_disk (Stop cause ∷ past) h = absurd (false≢true (sym h))
going_no_disk (_ ∷ past) h = refl

coordinator_same : (h : HubValues) (e : Event) (spare : ℕ) → IsPlain e → has_ended (state_of h).past ≡ false → coordinator_part (with_event h e spare) ≡ coordinator_part h
coordinator_same h e spare p going =
    let new = with_event h e spare in
    let past = ap (λ (s : State). s.past) (state_grown h new e (refl, refl, refl, refl)) in
    let unkept = ap (λ (past : List Event). sealed_epoch past) past ∙ sealed_same e p (state_of h).past in
    let stopped = ap (λ (past : List Event). is_stopped_by_disk past) past ∙ (no_disk e p (state_of h).past ∙ sym (going_no_disk (state_of h).past going)) in
    λ t. numbers_of_cuts (unkept t) (stopped t) (sealed_more (machine h) e (plain_seals_none e p) h.journal.events (start_state h.start) t)

-- ---- a lane's part

work_same : (s t : State) (i : ℕ) → Stays s t i → numbers_of_work t i ≡ numbers_of_work s i
work_same s t i h = λ q. i ∷ or_zero (h.since q) ∷ (listed (h.values q) ++ listed (hand_same (worker_at s.workers i) (worker_at t.workers i) h.standing q))

same_if : (b c : Bool) (xs ys : List ℕ) → c ≡ b → (b ≡ true → ys ≡ xs) → (if c then ys else []) ≡ (if b then xs else [])
same_if true c xs ys e h = ap (λ (c : Bool). if c then ys else []) e ∙ h refl
same_if false c xs ys e h = ap (λ (c : Bool). if c then ys else []) e

-- the worker is as it was, or it is out with the lane neither before nor after
abbrev pub IsLeft : (s t : State) (k i : ℕ) → Type 0
IsLeft s t k i = Stays s t i ⊎ ((is_out_with s k i ≡ false) × (is_out_with t k i ≡ false))

left_same : (s t : State) (k i : ℕ) → IsLeft s t k i → (if is_out_with t k i then numbers_of_work t i else []) ≡ (if is_out_with s k i then numbers_of_work s i else [])
left_same s t k i (inl h) = same_if (is_out_with s k i) (is_out_with t k i) (numbers_of_work s i) (numbers_of_work t i) (other_out s t k i h) (λ _. work_same s t i h)
left_same s t k i (inr h) = same_if (is_out_with s k i) (is_out_with t k i) (numbers_of_work s i) (numbers_of_work t i) (h.1 ∙ sym h.0) (λ out. absurd (both out h.0))

same_from : (f g : ℕ → List ℕ) (a n : ℕ) → ((i : ℕ) → i < n → f (a + i) ≡ g (a + i)) → flat_map f (range_with_len a n) ≡ flat_map g (range_with_len a n)
same_from f g a zero h = refl
same_from f g a (suc n) h =
    let z : a + 0 ≡ a = omega arith in
    let first : f a ≡ g a = subst (λ i. f i ≡ g i) z (h 0 (omega arith)) in
    let rest = same_from f g (a + 1) n (λ i l. let e : a + suc i ≡ a + 1 + i = omega arith in subst (λ i. f i ≡ g i) e (h (suc i) (omega (arith, l)))) in
    λ t. first t ++ rest t

pub same_below : (f g : ℕ → List ℕ) (n : ℕ) → ((i : ℕ) → i < n → f i ≡ g i) → flat_map f (numbers_below n) ≡ flat_map g (numbers_below n)
same_below f g n h = same_from f g 0 n (λ i l. let e : i ≡ 0 + i = omega arith in subst (λ i. f i ≡ g i) e (h i l))

out_same : (s t : State) (k : ℕ) → worker_count t ≡ worker_count s → ((i : ℕ) → i < worker_count s → IsLeft s t k i) → numbers_out t k ≡ numbers_out s k
out_same s t k n h =
    ap (λ (n : ℕ). flat_map (λ i. if is_out_with t k i then numbers_of_work t i else []) (numbers_below n)) n
    ∙ same_below (λ i. if is_out_with t k i then numbers_of_work t i else []) (λ i. if is_out_with s k i then numbers_of_work s i else []) (worker_count s) (λ i l. left_same s t k i (h i l))

pub event_leaves : (sys : System) (s : State) (lane k i : ℕ) (e : Event) → i < worker_count s → IsEventOf lane s e → IsTrue (row_admits sys s e) → (k ≡ lane → ⊥) → IsLeft s (state_after sys s e) k i
event_leaves sys s lane k i e l of row other = elim (cases_Bool (touches i e)) [
  | inr f ↦ inl (stays sys s e i l f)
  | inl t ↦ inr (touched e of row t)
]
  where
    not_true : (b : Bool) → (b ≡ true → ⊥) → b ≡ false
    not_true true h = absurd (h refl)
    not_true false h = refl

    touched : (e : Event) → IsEventOf lane s e → IsTrue (row_admits sys s e) → touches i e ≡ true → (is_out_with s k i ≡ false) × (is_out_with (state_after sys s e) k i ≡ false)
    touched (Take j l) of row t =
        let same = eqb-true i j t in (
          not_true (is_out_with s k i) (λ out. not_taken sys s j l (subst (λ n. is_running (worker_at s.workers n) ≡ true) same (and_parts _ _ out).0) row),
          not_true (is_out_with (state_after sys s (Take j l)) k i) (λ out. other (taker_out sys s k j l (subst (λ n. is_out_with (state_after sys s (Take j l)) k n ≡ true) same out) ∙ of)),
        )
    touched (Give j) of row t =
        let same = eqb-true i j t in (
          not_true (is_out_with s k i) (λ out. other (same_lane k lane (sym (by_lane k (lane_of j s.past) (subst (λ n. is_lane k (lane_of n s.past) ≡ true) same (and_parts _ _ out).1)) ∙ by_lane lane (lane_of j s.past) (and_parts _ _ of).1))),
          subst (λ n. is_out_with (state_after sys s (Give n)) k i ≡ false) same (giver_out sys s k i l),
        )
    touched (Stretch j n) of row t = absurd (false≢true t)
    touched (Hold j) of row t = absurd (false≢true t)
    touched (Flag j) of row t = absurd (false≢true t)
    touched Ask of row t = absurd (false≢true t)
    touched (Ack j) of row t = absurd (false≢true t)
    touched (Nack j) of row t = absurd (false≢true t)
    touched (Begin n) of row t = absurd (false≢true t)
    touched (Mark j) of row t = absurd (false≢true t)
    touched (Seal n) of row t = absurd (false≢true t)
    touched (Kept n) of row t = absurd (false≢true t)
    touched End of row t = absurd (false≢true t)
    touched (Stop c) of row t = absurd (false≢true t)

-- ---- notes

part_same : (x y : LanedHub) (k : ℕ) → lane_at y k ≡ lane_at x k → numbers_out (state_of y.hub) k ≡ numbers_out (state_of x.hub) k → lane_part y k ≡ lane_part x k
part_same x y k r n = λ t. numbers_of_record (r t) ++ (if (r t).out then n t else [])

chosen_same : (c d : Bool) (xs xs' ys ys' : List ℕ) → (c ≡ true → xs' ≡ xs) → (d ≡ true → ys' ≡ ys) → (if c then xs' else if d then ys' else []) ≡ (if c then xs else if d then ys else [])
chosen_same true d xs xs' ys ys' f g = f refl
chosen_same false true xs xs' ys ys' f g = g refl
chosen_same false false xs xs' ys ys' f g = refl

-- an event more, and these lanes
abbrev with_lanes : LanedHub → Event → ℕ → List LaneRecord → LanedHub
with_lanes old e spare lanes = record { hub = with_event old.hub e spare; lanes = lanes }

grown_is : (old new : LanedHub) (e : Event) → Appended old.hub e new.hub → new ≡ with_lanes old e new.hub.journal.spare new.lanes
grown_is old new e more = λ t. record {
  hub = record { job = more.0 t; counters = more.1 t; start = more.3 t; journal = record { events = more.2 t; spare = new.hub.journal.spare } };
  lanes = new.lanes;
}

-- the note stays where both parts do
note_grown : (old new : LanedHub) (e : Event) (k : ℕ) → Appended old.hub e new.hub → lane_at new k ≡ lane_at old k →
    numbers_out (state_after (machine old.hub) (state_of old.hub) e) k ≡ numbers_out (state_of old.hub) k →
    (k == old.hub.job.settings.lanes ≡ true → coordinator_part (with_event old.hub e new.hub.journal.spare) ≡ coordinator_part old.hub) → note_of new k ≡ note_of old k
note_grown old new e k more same out duty =
    let spare = new.hub.journal.spare in
    let n = old.hub.job.settings.lanes in
    let with : LanedHub = with_lanes old e spare new.lanes in
    let grown = ap (λ (s : State). numbers_out s k) (state_grown old.hub (with_event old.hub e spare) e (refl, refl, refl, refl)) in
    ap (λ (x : LanedHub). note_of x k) (grown_is old new e more)
    ∙ ap (λ (own : List ℕ). ground_of old.hub.job old.hub.start ++ own)
    (chosen_same (nat_lt k n) (k == n) (lane_part old k) (lane_part with k) (coordinator_part old.hub) (coordinator_part with.hub) (λ _. part_same old with k same (grown ∙ out)) duty)

pub lane_leaves : (old new : LanedHub) (lane : ℕ) (e : Event) → IsHub old.hub → Appended old.hub e new.hub → IsLaneEvent lane old e → IsTrue (is_admitted (machine old.hub) (state_of old.hub) e) →
    ((k : ℕ) → (k ≡ lane → ⊥) → lane_at new k ≡ lane_at old k) → OthersStay old lane new
lane_leaves old new lane e hub more of admitted lanes k other =
    let sys = machine old.hub in
    let s = state_of old.hub in
    let parts = and_parts (not (has_ended s.past)) (row_admits sys s e) admitted in
    note_grown old new e k more (lanes k other)
    (out_same s (state_after sys s e) k (same_count sys s e) (λ i l. event_leaves sys s lane k i e l of parts.1 other))
    (λ _. coordinator_same old.hub e new.hub.journal.spare (lane_is_plain lane s e of) (from_not (has_ended s.past) parts.0))

duty_out : (old : LanedHub) (e : Event) (k : ℕ) → IsDutyEvent e → numbers_out (state_after (machine old.hub) (state_of old.hub) e) k ≡ numbers_out (state_of old.hub) k
duty_out old e k of =
    let sys = machine old.hub in
    let s = state_of old.hub in
    out_same s (state_after sys s e) k (same_count sys s e) (λ i l. inl (stays sys s e i l (duty_is_still i e of)))

pub duty_leaves : (old new : LanedHub) (e : Event) → IsHub old.hub → Appended old.hub e new.hub → IsDutyEvent e → new.lanes ≡ old.lanes → OthersStay old old.hub.job.settings.lanes new
duty_leaves old new e hub more of lanes k other =
    note_grown old new e k more (ap (λ (rs : List LaneRecord). slice_index_or rs k no_record) lanes) (duty_out old e k of) (λ is. absurd (other (eqb-true k old.hub.job.settings.lanes is)))

-- a Stop for want of memory is in no note
pub memory_leaves : (old new : LanedHub) → IsHub old.hub → has_ended (reverse old.hub.journal.events) ≡ false → Appended old.hub (Stop Memory) new.hub → new.lanes ≡ old.lanes → (k : ℕ) → note_of new k ≡ note_of old k
memory_leaves old new hub going more lanes k =
    note_grown old new (Stop Memory) k more (ap (λ (rs : List LaneRecord). slice_index_or rs k no_record) lanes) (duty_out old (Stop Memory) k tt)
    (λ _. coordinator_same old.hub (Stop Memory) new.hub.journal.spare tt (ended_is old.hub ∙ going))

-- what leaves the journal leaves the notes
pub unchanged_leaves : (old new : LanedHub) (lane : ℕ) → Unchanged old.hub new.hub → ((k : ℕ) → (k ≡ lane → ⊥) → lane_at new k ≡ lane_at old k) → OthersStay old lane new
unchanged_leaves old new lane same lanes k other =
    let spare = new.hub.journal.spare in
    let n = old.hub.job.settings.lanes in
    let with : LanedHub = record { hub = record old.hub { journal = record { events = old.hub.journal.events; spare = spare } }; lanes = new.lanes } in
    let is : new ≡ with = λ t. record {
      hub = record { job = same.0 t; counters = same.1 t; start = same.3 t; journal = record { events = same.2 t; spare = spare } };
      lanes = new.lanes;
    } in
    ap (λ (x : LanedHub). note_of x k) is
    ∙ ap (λ (own : List ℕ). ground_of old.hub.job old.hub.start ++ own)
    (chosen_same (nat_lt k n) (k == n) (lane_part old k) (lane_part with k) (coordinator_part old.hub) (coordinator_part with.hub) (λ _. part_same old with k (lanes k other) refl) (λ _. refl))

-- ---- the beginning

pub new_at : (n k : ℕ) → slice_index_or (replicate n no_record) k no_record ≡ no_record
new_at zero k = refl
new_at (suc n) zero = refl
new_at (suc n) (suc k) = new_at n k

all_empty : (c d : Bool) (xs ys : List ℕ) → xs ≡ [] → ys ≡ [] → (if c then xs else if d then ys else []) ≡ []
all_empty true d xs ys f g = f
all_empty false true xs ys f g = g
all_empty false false xs ys f g = refl

-- at the beginning all notes are the ground
pub begun_notes : (x : LanedHub) (job : Job) (counters : ℕ) (start : SnapshotParts) → Begins job counters start x.hub → x.lanes ≡ new_lanes job.settings.lanes → (k : ℕ) → note_of x k ≡ ground_of job start
begun_notes x job counters start begins lanes k =
    let n = job.settings.lanes in
    let with : LanedHub = record { hub = record { job = job; counters = counters; start = start; journal = record { events = []; spare = x.hub.journal.spare } }; lanes = new_lanes n } in
    let is : x ≡ with = λ t. record {
      hub = record { job = begins.0 t; counters = begins.1 t; start = begins.3 t; journal = record { events = begins.2 t; spare = x.hub.journal.spare } };
      lanes = lanes t;
    } in
    let empty = ap (λ (r : LaneRecord). numbers_of_record r ++ (if r.out then numbers_out (state_of with.hub) k else [])) (new_at n k) in
    ap (λ (x : LanedHub). note_of x k) is
    ∙ (ap (λ (own : List ℕ). ground_of job start ++ own) (all_empty (nat_lt k n) (k == n) (lane_part with k) (coordinator_part with.hub) empty refl)
    ∙ append-nil (ground_of job start))
