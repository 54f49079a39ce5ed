-- What a note tells of the lane whose it is.
use Rattle.std.proofs.Common.{◌≡◌, ℕ, zero, suc, ◌+◌, ◌*◌, ◌<◌, ◌≤◌, ◌⊎◌, inl, inr, Bool, true, false, ◌==◌, nat_lt, if◌then◌else◌, IsTrue, refl, sym, ◌∙◌, ap, subst, arith, List, [], ◌∷◌, ◌++◌, append-nil, length, reverse, take, drop, flat_map, slice_index_or, Option, Some}
use Rattle.std.specs.List.{list_any, range_with_len}
use Rattle.std.proofs.Math.Seq.{take-append_seam, drop-append_seam}
use Rattle.std.proofs.lemmas.Bool.{and_parts, and_from, or_cases, eqb-true, eq-eqb, ltb-true, lt-ltb, cases_Bool, false_from_ne_true, true_from_ne_false, false≢true}
use Rattle.graph_core.specs.declared.job.Job.{Job}
use Rattle.graph_core.specs.Fragments.{piece_at, numbers_below}
use Rattle.grape_event.specs.declared.event.Event.{Event}
use Rattle.grape_event.specs.declared.event.Event.TheVariants.{Take, Give, Stretch, Hold, Flag, Ask, Ack, Nack, Begin, Mark, Seal, Kept, End, Stop}
use Rattle.pie_core.specs.Solutions.{lowered, local_solution}
use Rattle.base_machine.specs.Machine.{System, system_of, worker_at, is_running, hand_of}
use Rattle.legal_journal.specs.Past.{lane_of, has_ended}
use Rattle.legal_journal.specs.Legal.{State, start_state, state_after, row_admits, worker_count, is_lane, is_out_with, has_work_out}
use Rattle.legal_journal.proofs.Walks.{kept_along}
use Rattle.legal_journal.proofs.Probes.{both, same_count}
use Rattle.legal_journal.proofs.Cutting.{running_same}
use Rattle.hub_engine.specs.declared.work.Work.{Work}
use Rattle.hub_engine.specs.HubValues.{HubValues}
use Rattle.hub_engine.specs.States.{machine, state_of, workers_of, take_place, IsHub, IsOut}
use Rattle.hub_engine.specs.Calls.{MayGive}
use Rattle.grape_hub.specs.declared.lane_record.LaneRecord.{LaneRecord}
use Rattle.grape_hub.specs.LanedHub.{LanedHub, lane_at, is_out_at, AreLanes, IsLanedHub}
use Rattle.grape_hub.specs.Notes.{ground_in, or_zero, listed, numbers_of_job, numbers_of_snapshot, numbers_of_record, numbers_of_work, numbers_out, lane_part, coordinator_part, own_part, own_in, note_of, HasNoWork}
use Rattle.grape_hub.specs.Theorems.{IsCalm, NotesBegin, EmptyIsFree, RecordsTell, WorksTell, CalmIsEmpty}
use Rattle.grape_hub.proofs.Calm.{calm_is_free, begins_calm, after_give}
use Rattle.grape_hub.proofs.Staying.{touches, stays, free_each, by_lane, one_each}
use Rattle.grape_hub.proofs.Grounds.{head_same, tail_same, both_told, listed_told, grounds_tell}

-- ---- the ground, and what stands behind it

front_is : (ground own : List ℕ) → take (1 + length ground) (listed ground ++ own) ≡ listed ground
front_is ground own = let n : 1 + length ground ≡ length (listed ground) = omega arith in ap (λ (n : ℕ). take n (listed ground ++ own)) n ∙ take-append_seam (listed ground) own

behind_is : (ground own : List ℕ) → drop (1 + length ground) (listed ground ++ own) ≡ own
behind_is ground own = let n : 1 + length ground ≡ length (listed ground) = omega arith in ap (λ (n : ℕ). drop n (listed ground ++ own)) n ∙ drop-append_seam (listed ground) own

pub notes_begin : NotesBegin
notes_begin x k = front_is (numbers_of_job x.hub.job ++ numbers_of_snapshot x.hub.start) (own_part x k)

pub own_is : (x : LanedHub) (k : ℕ) → own_in (note_of x k) ≡ own_part x k
own_is x k = behind_is (numbers_of_job x.hub.job ++ numbers_of_snapshot x.hub.start) (own_part x k)

lane_own : (x : LanedHub) (k : ℕ) → k < x.hub.job.settings.lanes → own_in (note_of x k) ≡ lane_part x k
lane_own x k l =
    own_is x k ∙ ap (λ (c : Bool). if c then lane_part x k else if k == x.hub.job.settings.lanes then coordinator_part x.hub else []) (lt-ltb k x.hub.job.settings.lanes l)

-- ---- who is out with a lane

any_from : (test : ℕ → Bool) (a n : ℕ) → list_any test (range_with_len a n) ≡ true → (i : ℕ) × (i < n) × (test (a + i) ≡ true)
any_from test a zero h = absurd (false≢true h)
any_from test a (suc n) h = elim (or_cases (test a) (list_any test (range_with_len (a + 1) n)) h) [
  | inl t ↦ let z : a + 0 ≡ a = omega arith in (0, omega arith, subst (λ q. test q ≡ true) (sym z) t)
  | inr r ↦
      let k = any_from test (a + 1) n r in
      let z : a + 1 + k.0 ≡ a + suc k.0 = omega arith in
      let l = k.1 in
      (suc k.0, omega (arith, l), subst (λ q. test q ≡ true) z k.2)
]

who_is_out : (s : State) (k : ℕ) → has_work_out s k ≡ true → (i : ℕ) × (i < worker_count s) × (is_out_with s k i ≡ true)
who_is_out s k h =
    let w = any_from (is_out_with s k) 0 (worker_count s) h in
    let z : 0 + w.0 ≡ w.0 = omega arith in
    (w.0, w.1, subst (λ i. is_out_with s k i ≡ true) z w.2)

none_from : (f : ℕ → List ℕ) (a n : ℕ) → ((i : ℕ) → i < n → f (a + i) ≡ []) → flat_map f (range_with_len a n) ≡ []
none_from f a zero h = refl
none_from f a (suc n) h =
    let z : a + 0 ≡ a = omega arith in
    let first : f a ≡ [] = subst (λ i. f i ≡ []) z (h 0 (omega arith)) in
    let rest = none_from f (a + 1) n (λ i l. let e : a + suc i ≡ a + 1 + i = omega arith in subst (λ i. f i ≡ []) e (h (suc i) (omega (arith, l)))) in
    λ t. first t ++ rest t

only_from : (f : ℕ → List ℕ) (a n i : ℕ) → i < n → ((j : ℕ) → j < n → (j ≡ i → ⊥) → f (a + j) ≡ []) → flat_map f (range_with_len a n) ≡ f (a + i)
only_from f a zero i l h = absurd (omega (arith, l))
only_from f a (suc n) zero l h =
    let z : a + 0 ≡ a = omega arith in
    let rest = none_from f (a + 1) n (λ j m. let e : a + suc j ≡ a + 1 + j = omega arith in subst (λ i. f i ≡ []) e (h (suc j) (omega (arith, m)) (λ q. omega (arith, q)))) in
    ap (λ (l : List ℕ). f a ++ l) rest ∙ (append-nil (f a) ∙ ap f (sym z))
only_from f a (suc n) (suc i) l h =
    let z : a + 0 ≡ a = omega arith in
    let first : f a ≡ [] = subst (λ i. f i ≡ []) z (h 0 (omega arith) (λ q. omega (arith, q))) in
    let y : a + 1 + i ≡ a + suc i = omega arith in
    let rest = only_from f (a + 1) n i (omega (arith, l)) (λ j m other. let e : a + suc j ≡ a + 1 + j = omega arith in subst (λ i. f i ≡ []) e (h (suc j) (omega (arith, m)) (λ q. other (omega (arith, q))))) in
    ap (λ (l : List ℕ). l ++ flat_map f (range_with_len (a + 1) n)) first ∙ (rest ∙ ap f y)

only_below : (f : ℕ → List ℕ) (n i : ℕ) → i < n → ((j : ℕ) → j < n → (j ≡ i → ⊥) → f j ≡ []) → flat_map f (numbers_below n) ≡ f i
only_below f n i l h =
    let z : 0 + i ≡ i = omega arith in
    only_from f 0 n i l (λ j m other. let e : j ≡ 0 + j = omega arith in subst (λ i. f i ≡ []) e (h j m other)) ∙ ap f z

-- the numbers of the one Work that is out with the lane
work_of_lane : (h : HubValues) (k i : ℕ) → IsHub h → i < worker_count (state_of h) → is_out_with (state_of h) k i ≡ true → numbers_out (state_of h) k ≡ numbers_of_work (state_of h) i
work_of_lane h k i hub l out =
    let s = state_of h in
    only_below (λ j. if is_out_with s k j then numbers_of_work s j else []) (worker_count s) i l
    (λ j m other. ap (λ (c : Bool). if c then numbers_of_work s j else []) (false_from_ne_true (is_out_with s k j) (λ q. other ((one_each h hub).one k j i m l q out))))
    ∙ ap (λ (c : Bool). if c then numbers_of_work s i else []) out

-- ---- a lane's record

-- before the first call no Work is out
out_after_call : (x : LanedHub) (k : ℕ) → AreLanes x → nat_lt 0 (lane_at x k).calls ≡ false → is_out_at x k ≡ false
out_after_call x k lanes none = false_from_ne_true (is_out_at x k) (λ t. both (lt-ltb 0 (lane_at x k).calls (let c = (lanes.out k t).1 in omega (arith, c))) none)

-- the record's numbers, and what stands behind where there are none
abbrev with_record : Bool → LaneRecord → List ℕ → List ℕ
with_record c r rest = (if c then r.calls ∷ r.answer ∷ r.length ∷ [] else []) ++ rest

calls_first : (c : Bool) (r : LaneRecord) (rest : List ℕ) → (c ≡ false → r.calls ≡ 0) → (c ≡ false → rest ≡ []) → slice_index_or (with_record c r rest) 0 0 ≡ r.calls
calls_first true r rest is_zero none = refl
calls_first false r rest is_zero none = ap (λ (l : List ℕ). slice_index_or l 0 0) (none refl) ∙ sym (is_zero refl)

abbrev behind : LanedHub → ℕ → List ℕ
behind x k = if (lane_at x k).out then numbers_out (state_of x.hub) k else []

no_calls : (n : ℕ) → nat_lt 0 n ≡ false → n ≡ 0
no_calls zero h = refl
no_calls (suc n) h = absurd (both (lt-ltb 0 (suc n) (omega arith)) h)

pub records_tell : RecordsTell
records_tell x k hub l =
    let r = lane_at x k in
    let c = nat_lt 0 r.calls in
    let own = lane_own x k l in (
      ap (λ (o : List ℕ). slice_index_or o 0 0) own
          ∙ calls_first c r (behind x k) (no_calls r.calls) (λ none. ap (λ (b : Bool). if b then numbers_out (state_of x.hub) k else []) (out_after_call x k hub.1 none)),
      λ some. ap (λ (o : List ℕ). slice_index_or o 1 0) own ∙ ap (λ (b : Bool). slice_index_or (with_record b r (behind x k)) 1 0) (lt-ltb 0 r.calls some),
      λ some. ap (λ (o : List ℕ). slice_index_or o 2 0) own ∙ ap (λ (b : Bool). slice_index_or (with_record b r (behind x k)) 2 0) (lt-ltb 0 r.calls some),
    )

-- ---- where a Work is out, and where none is

-- the part of a lane with a Work out
out_part : (x : LanedHub) (k i : ℕ) → IsLanedHub x → is_out_at x k ≡ true → i < worker_count (state_of x.hub) → is_out_with (state_of x.hub) k i ≡ true →
    lane_part x k ≡ (lane_at x k).calls ∷ (lane_at x k).answer ∷ (lane_at x k).length ∷ numbers_of_work (state_of x.hub) i
out_part x k i hub out l with =
    let r = lane_at x k in
    ap (λ (c : Bool). with_record c r (behind x k)) (lt-ltb 0 r.calls (hub.1.out k out).1)
    ∙ ap (λ (rest : List ℕ). with_record true r rest) (ap (λ (c : Bool). if c then numbers_out (state_of x.hub) k else []) out ∙ work_of_lane x.hub k i hub.0 l with)

few_numbers : (c : Bool) (r : LaneRecord) → length (with_record c r []) ≤ 3
few_numbers true r = omega arith
few_numbers false r = omega arith

pub empty_is_free : EmptyIsFree
empty_is_free x k hub l = (
  λ few. false_from_ne_true (is_out_at x k)
      (λ t.
      let who = who_is_out (state_of x.hub) k (hub.1.out k t).0 in
      let n = ap {B = ℕ} (λ (o : List ℕ). length o) (lane_own x k l ∙ out_part x k who.0 hub t who.1 who.2) in
      many (lane_at x k) (state_of x.hub) who.0 (subst (λ n. n ≤ 3) n few)),
  λ free.
      let r = lane_at x k in
      let n = ap {B = ℕ} (λ (o : List ℕ). length o) (lane_own x k l ∙ ap (λ (b : Bool). numbers_of_record r ++ (if b then numbers_out (state_of x.hub) k else [])) free) in
      subst (λ n. n ≤ 3) (sym n) (few_numbers (nat_lt 0 r.calls) r),
)
  where
    many : (r : LaneRecord) (s : State) (i : ℕ) → length (r.calls ∷ r.answer ∷ r.length ∷ numbers_of_work s i) ≤ 3 → ⊥
    many r s i h = omega (arith, h)

-- ---- one note, and one Work

placed : (c : Bool) (l n k : ℕ) (lane place : Option ℕ) → (lane ≡ Some k → place ≡ Some (or_zero place)) → (if c then Some l else lane) ≡ Some k → (if c then Some n else place) ≡ Some (or_zero (if c then Some n else place))
placed true l n k lane place f h = refl
placed false l n k lane place f h = f h

-- a worker with a lane has the place of its Take
taken_place : (i k : ℕ) (past : List Event) → lane_of i past ≡ Some k → take_place i past ≡ Some (or_zero (take_place i past))
taken_place i k [] h = absurd (cc)
taken_place i k (Take j l ∷ past) h = placed (i == j) l (length past) k (lane_of i past) (take_place i past) (taken_place i k past) h
taken_place i k (_ ∷ past) h = taken_place i k past h

-- what may be given to a hub may be given to one with the same job, and the same worker out
give_same : (h g : HubValues) (k : ℕ) (work : Work) → h.job ≡ g.job → h.counters ≡ g.counters → IsOut (state_of g) k work.worker work.place →
    (worker_at (workers_of h) work.worker).values ≡ (worker_at (workers_of g) work.worker).values → hand_of (worker_at (workers_of h) work.worker) ≡ hand_of (worker_at (workers_of g) work.worker) →
    MayGive h k work → MayGive g k work
give_same h g k work job counters out values hand m =
    let i = work.worker in
    record {
      out = out;
      values = m.values ∙ (λ t. let sys = system_of (job t) in local_solution sys.equations (piece_at sys.pieces i).owned (piece_at sys.pieces i).mirrors (lowered sys.equations (piece_at sys.pieces i).owned (values t) (hand t)));
      before = m.before ∙ (λ t. take (length (piece_at (system_of (job t)).pieces i).owned) (values t));
      order = m.order ∙ (λ t. (system_of (job t)).equations.order);
      sizes = record {
        owned = m.sizes.owned ∙ (λ t. length (piece_at (system_of (job t)).pieces i).owned);
        room = m.sizes.room ∙ (λ t. length (piece_at (system_of (job t)).pieces i).owned * counters t);
        mirrors = m.sizes.mirrors ∙ (λ t. length (piece_at (system_of (job t)).pieces i).mirrors);
      };
    }

-- what the numbers of a Work tell
record TellWork (s t : State) (i j : ℕ) : Type 0 where
  worker : i ≡ j
  place : or_zero (take_place i s.past) ≡ or_zero (take_place j t.past)
  values : (worker_at s.workers i).values ≡ (worker_at t.workers j).values
  hand : hand_of (worker_at s.workers i) ≡ hand_of (worker_at t.workers j)

work_told : (s t : State) (i j : ℕ) → numbers_of_work s i ≡ numbers_of_work t j → TellWork s t i j
work_told s t i j h =
    let second = tail_same _ _ _ _ h in
    let lists = tail_same _ _ _ _ second in
    let v = worker_at s.workers i in
    let w = worker_at t.workers j in
    let told = both_told listed listed listed_told listed_told v.values w.values (hand_of v) (hand_of w) [] [] (append-nil (listed v.values ++ listed (hand_of v)) ∙ (lists ∙ sym (append-nil (listed w.values ++ listed (hand_of w))))) in
    record { worker = head_same _ _ _ _ h; place = head_same _ _ _ _ second; values = told.0; hand = told.1 }

-- the Work that lane k of x has out as worker i is what lane k of y has out
work_is : (x y : LanedHub) (k i : ℕ) → IsLanedHub x → IsLanedHub y → is_out_at x k ≡ true → is_out_at y k ≡ true → i < worker_count (state_of x.hub) → is_out_with (state_of x.hub) k i ≡ true → lane_part x k ≡ lane_part y k →
    (i < worker_count (state_of y.hub)) × (is_out_with (state_of y.hub) k i ≡ true) × TellWork (state_of x.hub) (state_of y.hub) i i
work_is x y k i hx hy ox oy l out same =
    let s = state_of x.hub in
    let t = state_of y.hub in
    let who = who_is_out t k (hy.1.out k oy).0 in
    let parts = sym (out_part x k i hx ox l out) ∙ (same ∙ out_part y k who.0 hy oy who.1 who.2) in
    let told = work_told s t i who.0 (tail_same _ _ _ _ (tail_same _ _ _ _ (tail_same _ _ _ _ parts))) in
    subst (λ j. (j < worker_count t) × (is_out_with t k j ≡ true) × TellWork s t i j) (sym told.worker) (who.1, who.2, told)

pub works_tell : WorksTell
works_tell x y k work hx hy l notes counters ox m =
    let i = work.worker in
    let grounds = grounds_tell x.hub.job y.hub.job x.hub.start y.hub.start (sym (notes_begin x k) ∙ (ap (λ (n : List ℕ). ground_in n) notes ∙ notes_begin y k)) in
    let ly = subst (λ (job : Job). k < job.settings.lanes) grounds.0 l in
    let oy = out_too ly in
    let same = sym (lane_own x k l) ∙ (ap (λ (n : List ℕ). own_in n) notes ∙ lane_own y k ly) in
    let out = and_from _ _ m.out.running (ap (λ (o : Option ℕ). is_lane k o) m.out.by_lane ∙ eq-eqb k k refl) in
    let w = work_is x y k i hx hy ox oy m.out.in_range out same in
    let parts = and_parts _ _ w.1 in
    let lane = by_lane k (lane_of i (state_of y.hub).past) parts.1 in
    let place = taken_place i k (state_of y.hub).past lane ∙ ap (λ (n : ℕ). Some n) (sym w.2.place ∙ ap (λ (o : Option ℕ). or_zero o) m.out.since) in
    (oy, give_same x.hub y.hub k work grounds.0 counters (record { in_range = w.0; running = parts.0; by_lane = lane; since = place }) w.2.values w.2.hand m)
  where
    out_too : k < y.hub.job.settings.lanes → is_out_at y k ≡ true
    out_too ly = true_from_ne_false (is_out_at y k) (λ f. both ox ((empty_is_free x k hx l).0 (subst (λ n. HasNoWork n) (sym notes) ((empty_is_free y k hy ly).1 f))))

-- ---- nobody out, and no lane with a Work out

-- who is out is so with one of the lanes
pub record HaveLanes (n : ℕ) (s : State) : Type 0 where
  pub each : (i : ℕ) → i < worker_count s → is_running (worker_at s.workers i) ≡ true → (k : ℕ) × (k < n) × (lane_of i s.past ≡ Some k)

lanes_kept : (sys : System) (s : State) (e : Event) → IsTrue (row_admits sys s e) → HaveLanes sys.settings.lanes s → HaveLanes sys.settings.lanes (state_after sys s e)
lanes_kept sys s e row h = record { each = λ i l out. let n = same_count sys s e in let below : i < worker_count s = omega (arith, l, n) in go i below out (cases_Bool (touches i e)) }
  where
    touched : (e : Event) (i : ℕ) → IsTrue (row_admits sys s e) → i < worker_count s → touches i e ≡ true → is_running (worker_at (state_after sys s e).workers i) ≡ true → (k : ℕ) × (k < sys.settings.lanes) × (lane_of i (e ∷ s.past) ≡ Some k)
    touched (Take j k) i row l t out =
        let may = and_parts _ _ (and_parts _ _ (and_parts _ _ (and_parts _ _ (and_parts _ _ (and_parts _ _ row).1).0).0).0).0 in
        (k, ltb-true k sys.settings.lanes may.0, ap (λ c. if c then Some k else lane_of i s.past) t)
    touched (Give j) i row l t out =
        absurd (both out (subst (λ n. is_running (worker_at (state_after sys s (Give n)).workers i) ≡ false) (eqb-true i j t) (after_give sys s i i l (λ other. absurd (other refl)))))
    touched (Stretch j n) i row l t out = absurd (false≢true t)
    touched (Hold j) i row l t out = absurd (false≢true t)
    touched (Flag j) i row l t out = absurd (false≢true t)
    touched Ask i row l t out = absurd (false≢true t)
    touched (Ack j) i row l t out = absurd (false≢true t)
    touched (Nack j) i row l t out = absurd (false≢true t)
    touched (Begin n) i row l t out = absurd (false≢true t)
    touched (Mark j) i row l t out = absurd (false≢true t)
    touched (Seal n) i row l t out = absurd (false≢true t)
    touched (Kept n) i row l t out = absurd (false≢true t)
    touched End i row l t out = absurd (false≢true t)
    touched (Stop c) i row l t out = absurd (false≢true t)

    go : (i : ℕ) → i < worker_count s → is_running (worker_at (state_after sys s e).workers i) ≡ true → (touches i e ≡ true) ⊎ (touches i e ≡ false) → (k : ℕ) × (k < sys.settings.lanes) × (lane_of i (e ∷ s.past) ≡ Some k)
    go i l out (inl t) = touched e i row l t out
    go i l out (inr f) =
        let still = stays sys s e i l f in
        let was = h.each i l (sym (running_same (worker_at s.workers i) (worker_at (state_after sys s e).workers i) still.standing) ∙ out) in
        (was.0, was.1, still.lane ∙ was.2)

pub have_lanes : (h : HubValues) → IsHub h → HaveLanes h.job.settings.lanes (state_of h)
have_lanes h hub =
    kept_along (machine h) (HaveLanes h.job.settings.lanes) (λ s e a p. lanes_kept (machine h) s e (and_parts _ _ a).1 p) h.journal.events (start_state h.start) hub.legal
    (record { each = λ i l out. absurd (both out (begins_calm (length h.start.parts) h.start.parts i)) })

pub calm_is_empty : CalmIsEmpty
calm_is_empty x hub = (empty, calm)
  where
    empty : IsCalm x.hub → (k : ℕ) → is_out_at x k ≡ false
    empty calm k = false_from_ne_true (is_out_at x k) (λ t. both (hub.1.out k t).0 (calm_is_free x.hub k calm))

    has_work : (k i : ℕ) → i < worker_count (state_of x.hub) → is_out_with (state_of x.hub) k i ≡ true → has_work_out (state_of x.hub) k ≡ true
    has_work k i l out = true_from_ne_false (has_work_out (state_of x.hub) k) (λ f. both out (free_each (state_of x.hub) k f i l))

    calm : has_ended (reverse x.hub.journal.events) ≡ false → ((k : ℕ) → k < x.hub.job.settings.lanes → is_out_at x k ≡ false) → IsCalm x.hub
    calm going free i l = false_from_ne_true (is_running (worker_at (workers_of x.hub) i))
        (λ t.
        let k = (have_lanes x.hub hub.0).each i l t in
        let out = and_from _ _ t (ap (λ (o : Option ℕ). is_lane k.0 o) k.2 ∙ eq-eqb k.0 k.0 refl) in
        both (hub.1.all going k.0 (has_work k.0 i l out)) (free k.0 k.1))
