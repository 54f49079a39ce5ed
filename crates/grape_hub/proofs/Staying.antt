-- What an event leaves of the Works that are out, and of the lanes that are free.
use Rattle.std.proofs.Common.{◌≡◌, ◌≢◌, ℕ, ◌+◌, ◌<◌, ◌⊎◌, inl, inr, Bool, true, false, not, ◌&&◌, ◌==◌, if◌then◌else◌, IsTrue, refl, sym, ◌∙◌, ap, subst, arith, List, [], ◌∷◌, length, take, Option, Some, None}
use Rattle.std.specs.List.{list_any}
use Rattle.std.proofs.lemmas.Bool.{and_parts, and_from, and_left, or_cases, eqb-true, eq-eqb, cases_eq, ne_eqb, cases_Bool, false≢true}
use Rattle.std.proofs.lemmas.List.FromFn.{length-range_with_len, get_or-range_with_len}
use Rattle.std.proofs.lemmas.List.Folds.{list_any_at}
use Rattle.graph_core.specs.declared.job.Job.{Job}
use Rattle.graph_core.specs.Fragments.{piece_at, numbers_below}
use Rattle.grape_event.specs.declared.event.Event.{Event}
use Rattle.grape_event.specs.declared.event.Event.TheVariants.{Take, Give, Stretch, Hold, Flag, Ask, Ack, Nack, Begin, Mark, Seal, Kept, End, Stop}
use Rattle.token_cut.specs.Parts.{SnapshotParts}
use Rattle.base_machine.specs.Machine.{System, system_of, BaseTake, BaseGive, Standing, Fresh, Running, Rest, Worker, worker_at, is_fresh, is_running, hand_of, after_giving, after_receiving, sent_to}
use Rattle.base_machine.proofs.Swapping.{after-at, as_before}
use Rattle.legal_journal.specs.Past.{lane_of, gives_of_each}
use Rattle.legal_journal.specs.Delays.{delay_is_over}
use Rattle.legal_journal.specs.Legal.{State, start_state, state_after, row_admits, is_admitted, worker_count, is_lane, is_out_with, has_work_out, rests_with_mail, IsLegal}
use Rattle.legal_journal.proofs.Walks.{kept_along, journals_grow, state_after_all-append}
use Rattle.legal_journal.proofs.Choosing.{any_none}
use Rattle.legal_journal.proofs.Probes.{both, same_count, not_running, ready_to_take}
use Rattle.legal_journal.proofs.Cutting.{running_same}
use Rattle.hub_engine.specs.declared.work.Work.{Work}
use Rattle.hub_engine.specs.HubValues.{HubValues}
use Rattle.hub_engine.specs.States.{machine, state_of, take_place, IsHub, IsOut}
use Rattle.hub_engine.specs.Calls.{Appended, IsWork, IsReady}
use Rattle.hub_engine.proofs.Hubs.{state_grown}
use Rattle.hub_engine.proofs.Ready.{with_event}
use Rattle.grape_hub.specs.Theorems.{WorksStay, LanesStay}

-- ---- what an event leaves of a worker

-- the event is a Take or a Give of worker i
abbrev pub touches : ℕ → Event → Bool
touches i (Take j k) = i == j
touches i (Give j) = i == j
touches i _ = false

untouched : (e : Event) (i : ℕ) → ((k : ℕ) → e ≡ Take i k → ⊥) → (e ≡ Give i → ⊥) → touches i e ≡ false
untouched (Take j k) i t g = elim (cases_Bool (i == j)) [ inl q ↦ absurd (t k (ap (λ n. Take n k) (sym (eqb-true i j q)))) | inr q ↦ q ]
untouched (Give j) i t g = elim (cases_Bool (i == j)) [ inl q ↦ absurd (g (ap (λ n. Give n) (sym (eqb-true i j q)))) | inr q ↦ q ]
untouched (Stretch j n) i t g = refl
untouched (Hold j) i t g = refl
untouched (Flag j) i t g = refl
untouched Ask i t g = refl
untouched (Ack j) i t g = refl
untouched (Nack j) i t g = refl
untouched (Begin n) i t g = refl
untouched (Mark j) i t g = refl
untouched (Seal n) i t g = refl
untouched (Kept n) i t g = refl
untouched End i t g = refl
untouched (Stop c) i t g = refl

-- what stays of worker i
pub record Stays (s t : State) (i : ℕ) : Type 0 where
  pub standing : (worker_at t.workers i).standing ≡ (worker_at s.workers i).standing
  pub values : (worker_at t.workers i).values ≡ (worker_at s.workers i).values
  pub lane : lane_of i t.past ≡ lane_of i s.past
  pub since : take_place i t.past ≡ take_place i s.past

differ : (i j : ℕ) → (i == j) ≡ false → i ≢ j
differ i j h e = both (eq-eqb i j e) h

pub stays : (sys : System) (s : State) (e : Event) (i : ℕ) → i < worker_count s → touches i e ≡ false → Stays s (state_after sys s e) i
stays sys s (Take j k) i l h =
    let b = as_before sys s.workers (BaseTake j (gives_of_each (numbers_below (worker_count s)) s.past)) i l (differ i j h) in
    record {
      standing = b.standing;
      values = b.values;
      lane = ap (λ t. if t then Some k else lane_of i s.past) h;
      since = ap (λ t. if t then Some (length s.past) else take_place i s.past) h;
    }
stays sys s (Give j) i l h = let b = as_before sys s.workers (BaseGive j) i l (differ i j h) in record { standing = b.standing; values = b.values; lane = refl; since = refl }
stays sys s (Stretch j n) i l h = record { standing = refl; values = refl; lane = refl; since = refl }
stays sys s (Hold j) i l h = record { standing = refl; values = refl; lane = refl; since = refl }
stays sys s (Flag j) i l h = record { standing = refl; values = refl; lane = refl; since = refl }
stays sys s Ask i l h = record { standing = refl; values = refl; lane = refl; since = refl }
stays sys s (Ack j) i l h = record { standing = refl; values = refl; lane = refl; since = refl }
stays sys s (Nack j) i l h = record { standing = refl; values = refl; lane = refl; since = refl }
stays sys s (Begin n) i l h = record { standing = refl; values = refl; lane = refl; since = refl }
stays sys s (Mark j) i l h = record { standing = refl; values = refl; lane = refl; since = refl }
stays sys s (Seal n) i l h = record { standing = refl; values = refl; lane = refl; since = refl }
stays sys s (Kept n) i l h = record { standing = refl; values = refl; lane = refl; since = refl }
stays sys s End i l h = record { standing = refl; values = refl; lane = refl; since = refl }
stays sys s (Stop c) i l h = record { standing = refl; values = refl; lane = refl; since = refl }

pub hand_same : (w w' : Worker) → w'.standing ≡ w.standing → hand_of w' ≡ hand_of w
hand_same w w' e = ap (λ (x : Standing). hand_of (record w { standing = x })) e

-- ---- Works

not_fresh : (w : Worker) → is_running w ≡ true → is_fresh w ≡ true → ⊥
not_fresh w h k =
    elim w.standing as (λ x. elim x as (λ _. Bool) [ Fresh ↦ false | Running hand ↦ true | Rest ↦ false ] ≡ true → elim x as (λ _. Bool) [ Fresh ↦ true | Running hand ↦ false | Rest ↦ false ] ≡ true → ⊥) [
      | Fresh ↦ λ a b. false≢true a
      | Running hand ↦ λ a b. false≢true b
      | Rest ↦ λ a b. false≢true a
    ] h k

-- a worker that is out isn't taken
pub not_taken : (sys : System) (s : State) (i k : ℕ) → is_running (worker_at s.workers i) ≡ true → IsTrue (row_admits sys s (Take i k)) → ⊥
not_taken sys s i k out row =
    elim (or_cases (is_fresh (worker_at s.workers i)) _ (ready_to_take sys s i k row)) [
      | inl f ↦ not_fresh (worker_at s.workers i) out f
      | inr r ↦ not_running (worker_at s.workers i) (and_parts _ _ (and_parts (rests_with_mail s i) (delay_is_over sys.settings.policy s.workers s.past i) r).0).0 out
    ]

-- the event that a hub has more was admitted
pub admitted_more : (old new : HubValues) (e : Event) → Appended old e new → IsHub new → IsTrue (is_admitted (machine old) (state_of old) e)
admitted_more old new e more hub =
    let legal = subst (IsLegal (machine old) old.start) more.2
    (subst (λ (start : SnapshotParts). IsLegal (machine old) start new.journal.events) more.3 (subst (λ (job : Job). IsLegal (system_of job) new.start new.journal.events) more.0 hub.legal)) in
    ((journals_grow (machine old) old.start old.journal.events e).2.0 legal).1

was_admitted : (old new : HubValues) (e : Event) → Appended old e new → IsHub new → IsTrue (row_admits (machine old) (state_of old) e)
was_admitted old new e more hub = (and_parts _ _ (admitted_more old new e more hub)).1

out_stays : (s t : State) (lane i place : ℕ) → worker_count t ≡ worker_count s → Stays s t i → IsOut s lane i place → IsOut t lane i place
out_stays s t lane i place n k out =
    let l = out.in_range in
    record {
      in_range = omega (arith, l, n);
      running = running_same (worker_at s.workers i) (worker_at t.workers i) k.standing ∙ out.running;
      by_lane = k.lane ∙ out.by_lane;
      since = k.since ∙ out.since;
    }

work_with : (old : HubValues) (e : Event) (spare lane : ℕ) (fresh : Bool) (work : Work) → Stays (state_of old) (state_of (with_event old e spare)) work.worker → worker_count (state_of (with_event old e spare)) ≡ worker_count (state_of old) →
    IsWork old lane fresh work → IsWork (with_event old e spare) lane fresh work
work_with old e spare lane fresh work k n w =
    let new = state_of (with_event old e spare) in
    let i = work.worker in
    record {
      out = out_stays (state_of old) new lane i work.place n k w.out;
      is_first = w.is_first;
      values = w.values ∙ sym k.values;
      hand = w.hand ∙ (λ t. record { order = (machine old).equations.order; values = sym (hand_same (worker_at (state_of old).workers i) (worker_at new.workers i) k.standing) t });
      before = w.before ∙ ap (λ (xs : List ℕ). take (length (piece_at (machine old).pieces i).owned) xs) (sym k.values);
      sizes = w.sizes;
    }

pub works_stay : WorksStay
works_stay old new lane fresh work e w r more hub other =
    let i = work.worker in
    let s = state_of old in
    let still = stays (machine old) s e i w.out.in_range
    (untouched e i (λ k q. not_taken (machine old) s i k w.out.running (subst (λ x. IsTrue (row_admits (machine old) s x)) q (was_admitted old new e more hub))) other) in
    let grown = state_after_all-append (machine old) old.journal.events (e ∷ []) (start_state old.start) in
    let same : new ≡ with_event old e new.journal.spare =
    λ t. record { job = more.0 t; counters = more.1 t; start = more.3 t; journal = record { events = more.2 t; spare = new.journal.spare } } in
    subst (λ h. IsWork h lane fresh work × IsReady h work) (sym same) (
      work_with old e new.journal.spare lane fresh work (subst (λ (q : State). Stays s q i) (sym grown) still) (ap (λ (q : State). worker_count q) grown ∙ same_count (machine old) s e) w,
      record { first = r.first; again = r.again },
    )

-- ---- lanes

none_of : (test : ℕ → Bool) (n : ℕ) → list_any test (numbers_below n) ≡ false → (i : ℕ) → i < n → test i ≡ false
none_of test n h i l = elim (cases_Bool (test i)) [
  | inl t ↦
      let len = length-range_with_len 0 n in
      absurd (both (list_any_at test (numbers_below n) i 0 (omega (arith, l, len)) (subst (λ x. test x ≡ true) (sym (get_or-range_with_len 0 n i 0 l ∙ omega arith)) t)) h)
  | inr f ↦ f
]

pub free_each : (s : State) (k : ℕ) → has_work_out s k ≡ false → (i : ℕ) → i < worker_count s → is_out_with s k i ≡ false
free_each s k h = none_of (is_out_with s k) (worker_count s) (h)

pub free_from : (s : State) (k : ℕ) → ((i : ℕ) → i < worker_count s → is_out_with s k i ≡ false) → has_work_out s k ≡ false
free_from s k h = any_none (is_out_with s k) (worker_count s) h

pub other_out : (s t : State) (k i : ℕ) → Stays s t i → is_out_with t k i ≡ is_out_with s k i
other_out s t k i h = λ q. running_same (worker_at s.workers i) (worker_at t.workers i) h.standing q && is_lane k (h.lane q)

-- who gives isn't out
pub giver_out : (sys : System) (s : State) (k i : ℕ) → i < worker_count s → is_out_with (state_after sys s (Give i)) k i ≡ false
giver_out sys s k i l =
    and_left _ _ (ap (λ (w : Worker). is_running w) (after-at sys s.workers (BaseGive i) i l)
    ∙ ap (λ b. is_running (if b then after_giving sys (piece_at sys.pieces i) (worker_at s.workers i) else after_receiving i ((worker_at s.workers i).gives + 1) (sent_to sys (piece_at sys.pieces i) (worker_at s.workers i) i) (worker_at s.workers i))) (eq-eqb i i refl))

pub by_lane : (k : ℕ) (o : Option ℕ) → is_lane k o ≡ true → o ≡ Some k
by_lane k None h = absurd (false≢true h)
by_lane k (Some l) h = ap (λ n. Some n) (sym (eqb-true k l h))

pub same_lane : (k l : ℕ) → Some k ≡ Some l → k ≡ l
same_lane k l e = ap (λ (o : Option ℕ). elim o as (λ _. ℕ) [ None ↦ k | Some q ↦ q ]) e

-- who is out by the journal is out with its lane
pub out_with : (s : State) (lane worker place : ℕ) → IsOut s lane worker place → is_out_with s lane worker ≡ true
out_with s lane worker place out = and_from _ _ out.running (ap (λ o. is_lane lane o) out.by_lane ∙ eq-eqb lane lane refl)

-- who is taken is out with no other lane
pub taker_out : (sys : System) (s : State) (k i lane : ℕ) → is_out_with (state_after sys s (Take i lane)) k i ≡ true → k ≡ lane
taker_out sys s k i lane h =
    same_lane k lane (sym (by_lane k _ (and_parts _ _ h).1) ∙ ap (λ b. if b then Some lane else lane_of i s.past) (eq-eqb i i refl))

-- an event but a Take by lane k brings nobody out with it
free_stays : (sys : System) (s : State) (k : ℕ) (e : Event) → ((i : ℕ) → e ≡ Take i k → ⊥) → (i : ℕ) → i < worker_count s → is_out_with s k i ≡ false → is_out_with (state_after sys s e) k i ≡ false
free_stays sys s k e other i l h = elim (cases_Bool (touches i e)) [
  | inl t ↦ touched e other t
  | inr f ↦ other_out s (state_after sys s e) k i (stays sys s e i l f) ∙ h
]
  where
    touched : (e : Event) → ((i : ℕ) → e ≡ Take i k → ⊥) → touches i e ≡ true → is_out_with (state_after sys s e) k i ≡ false
    touched (Take j lane) other t = elim (cases_Bool (is_out_with (state_after sys s (Take j lane)) k i)) [
      | inl q ↦ absurd (other j (ap (λ n. Take j n) (sym (taker_out sys s k j lane (subst (λ n. is_out_with (state_after sys s (Take j lane)) k n ≡ true) (eqb-true i j t) q)))))
      | inr q ↦ q
    ]
    touched (Give j) other t = subst (λ n. is_out_with (state_after sys s (Give n)) k i ≡ false) (eqb-true i j t) (giver_out sys s k i l)
    touched (Stretch j n) other t = absurd (false≢true t)
    touched (Hold j) other t = absurd (false≢true t)
    touched (Flag j) other t = absurd (false≢true t)
    touched Ask other t = absurd (false≢true t)
    touched (Ack j) other t = absurd (false≢true t)
    touched (Nack j) other t = absurd (false≢true t)
    touched (Begin n) other t = absurd (false≢true t)
    touched (Mark j) other t = absurd (false≢true t)
    touched (Seal n) other t = absurd (false≢true t)
    touched (Kept n) other t = absurd (false≢true t)
    touched End other t = absurd (false≢true t)
    touched (Stop c) other t = absurd (false≢true t)

pub lane_stays : (old new : HubValues) (lane : ℕ) (e : Event) → has_work_out (state_of old) lane ≡ false → ((i : ℕ) → e ≡ Take i lane → ⊥) → Appended old e new → has_work_out (state_of new) lane ≡ false
lane_stays old new lane e free other more =
    let s = state_of old in
    let n = same_count (machine old) s e in
    ap (λ (q : State). has_work_out q lane) (state_grown old new e more)
    ∙ free_from (state_after (machine old) s e) lane (λ i l. let below : i < worker_count s = omega (arith, l, n) in free_stays (machine old) s lane e other i below (free_each s lane free i below))

-- ---- a lane has one Work at most

-- who takes
abbrev taker : Event → ℕ
taker (Take i k) = i
taker _ = 0

pub from_not : (b : Bool) → not b ≡ true → b ≡ false
from_not true h = absurd (false≢true h)
from_not false h = refl

lane_was_free : (sys : System) (s : State) (i k : ℕ) → IsTrue (row_admits sys s (Take i k)) → has_work_out s k ≡ false
lane_was_free sys s i k row = from_not (has_work_out s k) (and_parts _ _ (and_parts _ _ (and_parts _ _ (and_parts _ _ (and_parts _ _ (and_parts _ _ row).1).0).0).0).0).1

pub record HasOneEach (s : State) : Type 0 where
  pub one : (k i j : ℕ) → i < worker_count s → j < worker_count s → is_out_with s k i ≡ true → is_out_with s k j ≡ true → i ≡ j

one_kept : (sys : System) (s : State) (e : Event) → IsTrue (row_admits sys s e) → HasOneEach s → HasOneEach (state_after sys s e)
one_kept sys s e row p = record { one = λ k i j li lj a b. go k i j (below i li) (below j lj) a b (cases_Bool (touches i e)) (cases_Bool (touches j e)) }
  where
    below : (i : ℕ) → i < worker_count (state_after sys s e) → i < worker_count s
    below i l = let n = same_count sys s e in omega (arith, l, n)

    before : (k i : ℕ) → i < worker_count s → touches i e ≡ false → is_out_with (state_after sys s e) k i ≡ true → is_out_with s k i ≡ true
    before k i l f h = sym (other_out s (state_after sys s e) k i (stays sys s e i l f)) ∙ h

    -- who is touched and out was taken
    taken : (e : Event) (k i : ℕ) → i < worker_count s → touches i e ≡ true → is_out_with (state_after sys s e) k i ≡ true → e ≡ Take i k
    taken (Take j lane) k i l t h =
        let same = sym (eqb-true i j t) in
        let lanes = taker_out sys s k j lane (subst (λ n. is_out_with (state_after sys s (Take j lane)) k n ≡ true) (sym same) h) in
        ap (λ n. Take n lane) same ∙ ap (λ n. Take i n) (sym lanes)
    taken (Give j) k i l t h = absurd (both h (subst (λ n. is_out_with (state_after sys s (Give n)) k i ≡ false) (eqb-true i j t) (giver_out sys s k i l)))
    taken (Stretch j n) k i l t h = absurd (false≢true t)
    taken (Hold j) k i l t h = absurd (false≢true t)
    taken (Flag j) k i l t h = absurd (false≢true t)
    taken Ask k i l t h = absurd (false≢true t)
    taken (Ack j) k i l t h = absurd (false≢true t)
    taken (Nack j) k i l t h = absurd (false≢true t)
    taken (Begin n) k i l t h = absurd (false≢true t)
    taken (Mark j) k i l t h = absurd (false≢true t)
    taken (Seal n) k i l t h = absurd (false≢true t)
    taken (Kept n) k i l t h = absurd (false≢true t)
    taken End k i l t h = absurd (false≢true t)
    taken (Stop c) k i l t h = absurd (false≢true t)

    -- the lane of a Take was free
    was_free : (k i : ℕ) → e ≡ Take i k → has_work_out s k ≡ false
    was_free k i q = lane_was_free sys s i k (subst (λ x. IsTrue (row_admits sys s x)) q row)

    only : (k i j : ℕ) → i < worker_count s → j < worker_count s → touches i e ≡ true → touches j e ≡ false → is_out_with (state_after sys s e) k i ≡ true → is_out_with (state_after sys s e) k j ≡ true → i ≡ j
    only k i j li lj ti tj a b = absurd (both (before k j lj tj b) (free_each s k (was_free k i (taken e k i li ti a)) j lj))

    go : (k i j : ℕ) → i < worker_count s → j < worker_count s → is_out_with (state_after sys s e) k i ≡ true → is_out_with (state_after sys s e) k j ≡ true →
        (touches i e ≡ true) ⊎ (touches i e ≡ false) → (touches j e ≡ true) ⊎ (touches j e ≡ false) → i ≡ j
    go k i j li lj a b (inl ti) (inl tj) = ap (λ (x : Event). taker x) (sym (taken e k i li ti a) ∙ taken e k j lj tj b)
    go k i j li lj a b (inl ti) (inr tj) = only k i j li lj ti tj a b
    go k i j li lj a b (inr ti) (inl tj) = sym (only k j i lj li tj ti b a)
    go k i j li lj a b (inr ti) (inr tj) = p.one k i j li lj (before k i li ti a) (before k j lj tj b)

nobody_out : (start : SnapshotParts) → HasOneEach (start_state start)
nobody_out start = record { one = λ k i j li lj a b. absurd (false≢true (and_parts _ _ a).1) }

pub one_each : (h : HubValues) → IsHub h → HasOneEach (state_of h)
one_each h hub = kept_along (machine h) HasOneEach (λ s e a p. one_kept (machine h) s e (and_parts _ _ a).1 p) h.journal.events (start_state h.start) hub.legal (nobody_out h.start)

pub freed : (old new : HubValues) (lane worker place : ℕ) → IsHub old → IsOut (state_of old) lane worker place → Appended old (Give worker) new → has_work_out (state_of new) lane ≡ false
freed old new lane worker place hub out more =
    let n = same_count (machine old) s (Give worker) in
    ap (λ (q : State). has_work_out q lane) (state_grown old new (Give worker) more)
    ∙ free_from (state_after (machine old) s (Give worker)) lane (λ j l. each j (omega (arith, l, n)))
  where
    s : State
    s = state_of old

    is_out : is_out_with s lane worker ≡ true
    is_out = out_with s lane worker place out

    each : (j : ℕ) → j < worker_count s → is_out_with (state_after (machine old) s (Give worker)) lane j ≡ false
    each j l = elim (cases_eq j worker) [
      | inl e ↦ subst (λ n. is_out_with (state_after (machine old) s (Give worker)) lane n ≡ false) (sym e) (giver_out (machine old) s lane worker out.in_range)
      | inr n ↦ other_out s (state_after (machine old) s (Give worker)) lane j (stays (machine old) s (Give worker) j l (ne_eqb j worker n))
          ∙ elim (cases_Bool (is_out_with s lane j)) [ inl t ↦ absurd (n ((one_each old hub).one lane j worker l out.in_range t is_out)) | inr f ↦ f ]
    ]

lane_freed : (old new : HubValues) (lane : ℕ) (fresh : Bool) (work : Work) → IsHub old → IsWork old lane fresh work → Appended old (Give work.worker) new → has_work_out (state_of new) lane ≡ false
lane_freed old new lane fresh work hub w more = freed old new lane work.worker work.place hub w.out more

pub lanes_stay : LanesStay
lanes_stay = (lane_stays, lane_freed)
