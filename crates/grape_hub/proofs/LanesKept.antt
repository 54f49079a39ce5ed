-- What the calls of a hub leave of the lanes' records, of the notes, and of the Locals that were given up.
use Rattle.std.proofs.Common.{◌≡◌, ℕ, zero, suc, ◌+◌, ◌-◌, ◌^◌, ◌<◌, ◌≤◌, inl, inr, min, MatchBool, Bool, true, false, not, ◌==◌, IsTrue, refl, sym, ◌∙◌, ap, subst, arith, List, [], ◌∷◌, length, length-append, length-set, reverse, slice_index_or, slice_set, Option, Some, None}
use Rattle.std.specs.List.{AllZip}
use Rattle.std.proofs.lemmas.Bool.{and_parts, and_from, cases_Bool, cases_eq, eq-eqb, false≢true}
use Rattle.std.proofs.lemmas.List.{length-map, length-replicate, length-take-le, get_or-set_same, get_or-set_other}
use Rattle.graph_core.specs.Fragments.{Piece, piece_at, places}
use Rattle.graph_core.specs.declared.job.Job.{Job}
use Rattle.grape_event.specs.declared.event.Event.{Event}
use Rattle.grape_event.specs.declared.event.Event.TheVariants.{Take, Give, Stretch, Hold, Flag, Ask, Ack, Nack, Begin, Mark, Seal, Kept, End, Stop}
use Rattle.grape_event.specs.declared.event.StopCause.{StopCause}
use Rattle.grape_event.specs.declared.event.StopCause.TheVariants.{Memory}
use Rattle.grape_event.specs.Events.{is_last, is_take}
use Rattle.token_cut.specs.Parts.{PartValues, SnapshotParts, part_at}
use Rattle.pie_core.specs.Locals.{LocalValues}
use Rattle.pie_core.specs.LocalCalls.{loaded}
use Rattle.pie_core.specs.Solutions.{starts_of}
use Rattle.base_machine.specs.Fitness.{IsPartInForm}
use Rattle.base_machine.proofs.Giving.{below-length}
use Rattle.base_machine.proofs.Bounded.{new-length}
use Rattle.base_machine.specs.Machine.{System, system_of, worker_at}
use Rattle.legal_journal.specs.Past.{has_ended}
use Rattle.legal_journal.specs.Legal.{State, state_at_end, state_after, row_admits, worker_count, is_lane, is_out_with, has_work_out}
use Rattle.legal_journal.specs.Choices.{is_of_lane, is_duty}
use Rattle.legal_journal.proofs.Choosing.{lane_choices_are_exact, duties_are_exact}
use Rattle.legal_journal.proofs.Probes.{both, same_count}
use Rattle.hub_engine.specs.HubValues.{HubValues}
use Rattle.hub_engine.specs.States.{machine, state_of, workers_of, piece_of_worker, IsHub}
use Rattle.hub_engine.specs.Calls.{Appended, AppendedUnlessEnded, Unchanged, Begins, Chooses, ChoosesDuty, MayGive, IsGivenUp, AreGivenUp}
use Rattle.hub_engine.specs.declared.work.Next.{Next}
use Rattle.hub_engine.specs.declared.work.Next.TheVariants.{Took, Did, Idle, Ended, NoMemory}
use Rattle.hub_engine.specs.declared.work.Duty.{Duty}
use Rattle.hub_engine.specs.declared.work.Duty.TheVariants as duty
use Rattle.hub_engine.specs.declared.work.Work.{Work}
use Rattle.hub_engine.proofs.Hubs.{ended_is, piece_count, workers_are, state_grown, ends_with}
use Rattle.hub_engine.proofs.Formed.{sound, formed}
use Rattle.grape_hub.specs.declared.lane_record.LaneRecord.{LaneRecord}
use Rattle.grape_hub.specs.LanedHub.{LanedHub, no_record, new_lanes, lane_at, is_out_at, answer_of, after_answer, AreLanes, IsLanedHub}
use Rattle.grape_hub.specs.GivenUp.{HoldsGivenUp}
use Rattle.grape_hub.specs.Notes.{note_of, OthersStay}
use Rattle.grape_hub.proofs.Calm.{calm_is_free, calm_at_beginning}
use Rattle.grape_hub.proofs.NoteLaws.{have_lanes}
use Rattle.grape_hub.proofs.Staying.{admitted_more, free_each, free_from, other_out, stays, from_not, out_with, lane_stays, freed, one_each}
use Rattle.grape_hub.proofs.NotesStay.{IsEventOf, IsDutyEvent, IsLeft, event_leaves, duty_is_still, lane_leaves, duty_leaves, memory_leaves, unchanged_leaves, new_at}

-- ---- who is out with a lane

-- the same workers are out with a lane
record SameOut (s t : State) (k : ℕ) : Type 0 where
  count : worker_count t ≡ worker_count s
  each : (i : ℕ) → i < worker_count s → is_out_with t k i ≡ is_out_with s k i

work_of : (s : State) (k i : ℕ) → i < worker_count s → is_out_with s k i ≡ true → has_work_out s k ≡ true
work_of s k i l out = elim (cases_Bool (has_work_out s k)) [ inl t ↦ t | inr f ↦ absurd (both out (free_each s k f i l)) ]

work_same : (s t : State) (k : ℕ) → SameOut s t k → has_work_out t k ≡ has_work_out s k
work_same s t k same = elim (cases_Bool (has_work_out s k)) [
  | inr f ↦ to_free f ∙ sym f
  | inl w ↦ elim (cases_Bool (has_work_out t k)) [
    | inl v ↦ v ∙ sym w
    | inr f ↦ absurd (both w (free_from s k (λ i l. let n = same.count in sym (same.each i l) ∙ free_each t k f i (omega (arith, n, l)))))
  ]
]
  where
    to_free : has_work_out s k ≡ false → has_work_out t k ≡ false
    to_free f = free_from t k (λ i l. let n = same.count in let below : i < worker_count s = omega (arith, n, l) in same.each i below ∙ free_each s k f i below)

left_out : (s t : State) (k i : ℕ) → IsLeft s t k i → is_out_with t k i ≡ is_out_with s k i
left_out s t k i (inl h) = other_out s t k i h
left_out s t k i (inr h) = h.1 ∙ sym h.0

same_state : (old new : HubValues) → Unchanged old new → state_of new ≡ state_of old
same_state old new same =
    ap (λ (job : Job). state_at_end (system_of job) new.start new.journal.events) same.0
    ∙ (ap (λ (start : SnapshotParts). state_at_end (machine old) start new.journal.events) same.3 ∙ ap (λ (es : List Event). state_at_end (machine old) old.start es) same.2)

unchanged_out : (old new : HubValues) (k : ℕ) → Unchanged old new → SameOut (state_of old) (state_of new) k
unchanged_out old new k same = subst (λ (t : State). SameOut (state_of old) t k) (sym (same_state old new same)) (record { count = refl; each = λ i l. refl })

-- a lane's event leaves who is out with other lanes
event_out : (old new : HubValues) (lane : ℕ) (e : Event) → IsHub new → Appended old e new → IsEventOf lane (state_of old) e → (k : ℕ) → (k ≡ lane → ⊥) → SameOut (state_of old) (state_of new) k
event_out old new lane e hub more of k other =
    let s = state_of old in
    let row = (and_parts (not (has_ended s.past)) (row_admits (machine old) s e) (admitted_more old new e more hub)).1 in
    subst (λ (t : State). SameOut s t k) (sym (state_grown old new e more)) (record {
      count = same_count (machine old) s e;
      each = λ i l. left_out s (state_after (machine old) s e) k i (event_leaves (machine old) s lane k i e l of row other);
    })

-- the coordinator's event leaves who is out
duty_out : (old new : HubValues) (e : Event) → Appended old e new → IsDutyEvent e → (k : ℕ) → SameOut (state_of old) (state_of new) k
duty_out old new e more of k =
    let s = state_of old in
    subst (λ (t : State). SameOut s t k) (sym (state_grown old new e more)) (record {
      count = same_count (machine old) s e;
      each = λ i l. other_out s (state_after (machine old) s e) k i (stays (machine old) s e i l (duty_is_still i e of));
    })

-- before an event that was appended the journal hadn't ended
was_going : (old new : HubValues) (e : Event) → IsHub new → Appended old e new → has_ended (reverse old.journal.events) ≡ false
was_going old new e hub more = sym (ended_is old) ∙ from_not (has_ended (state_of old).past) (and_parts (not (has_ended (state_of old).past)) (row_admits (machine old) (state_of old) e) (admitted_more old new e more hub)).0

-- ---- the lanes' records

-- a call of this lane leaves the records of all others
record LeavesRecords (x y : LanedHub) (lane : ℕ) : Type 0 where
  count : length y.lanes ≡ length x.lanes
  others : (k : ℕ) → (k ≡ lane → ⊥) → lane_at y k ≡ lane_at x k

set_records : (x y : LanedHub) (lane : ℕ) (r : LaneRecord) → y.lanes ≡ slice_set x.lanes lane r → LeavesRecords x y lane
set_records x y lane r e = record {
  count = ap (λ (rs : List LaneRecord). length rs) e ∙ length-set x.lanes lane r;
  others = λ k other. ap (λ (rs : List LaneRecord). slice_index_or rs k no_record) e ∙ get_or-set_other x.lanes lane k r no_record other;
}

set_own : (x y : LanedHub) (lane : ℕ) (r : LaneRecord) → lane < length x.lanes → y.lanes ≡ slice_set x.lanes lane r → lane_at y lane ≡ r
set_own x y lane r l e = ap (λ (rs : List LaneRecord). slice_index_or rs lane no_record) e ∙ get_or-set_same x.lanes lane r no_record l

same_records : (x y : LanedHub) (lane : ℕ) → y.lanes ≡ x.lanes → LeavesRecords x y lane
same_records x y lane e = record {
  count = ap (λ (rs : List LaneRecord). length rs) e;
  others = λ k other. ap (λ (rs : List LaneRecord). slice_index_or rs k no_record) e;
}

-- the record of the lane of the call is right too
record OwnIsRight (y : LanedHub) (lane : ℕ) : Type 0 where
  out : is_out_at y lane ≡ true → (has_work_out (state_of y.hub) lane ≡ true) × (1 ≤ (lane_at y lane).calls)
  all : has_ended (reverse y.hub.journal.events) ≡ false → has_work_out (state_of y.hub) lane ≡ true → is_out_at y lane ≡ true

lanes_kept : (x y : LanedHub) (lane : ℕ) → AreLanes x → y.hub.job ≡ x.hub.job → LeavesRecords x y lane → ((k : ℕ) → (k ≡ lane → ⊥) → SameOut (state_of x.hub) (state_of y.hub) k) →
    (has_ended (reverse y.hub.journal.events) ≡ false → has_ended (reverse x.hub.journal.events) ≡ false) → OwnIsRight y lane → AreLanes y
lanes_kept x y lane are job records same went own = record {
  count = records.count ∙ (are.count ∙ ap (λ (j : Job). j.settings.lanes) (sym job));
  out = λ k o. elim (cases_eq k lane) [
    | inl e ↦ subst (λ n. (has_work_out (state_of y.hub) n ≡ true) × (1 ≤ (lane_at y n).calls)) (sym e) (own.out (subst (λ n. is_out_at y n ≡ true) e o))
    | inr n ↦
        let r = records.others k n in
        let was = are.out k (sym (ap (λ (r : LaneRecord). r.out) r) ∙ o) in
        (work_same (state_of x.hub) (state_of y.hub) k (same k n) ∙ was.0, subst (λ (r : LaneRecord). 1 ≤ r.calls) (sym r) was.1)
  ];
  all = λ going k w. elim (cases_eq k lane) [
    | inl e ↦ subst (λ n. is_out_at y n ≡ true) (sym e) (own.all going (subst (λ n. has_work_out (state_of y.hub) n ≡ true) e w))
    | inr n ↦ ap (λ (r : LaneRecord). r.out) (records.others k n) ∙ are.all (went going) k (sym (work_same (state_of x.hub) (state_of y.hub) k (same k n)) ∙ w)
  ];
}

-- ---- what was given up

-- until the journal has ended nothing was
given_going : (y : LanedHub) (given : List (Option LocalValues)) → AreLanes y → has_ended (reverse y.hub.journal.events) ≡ false → length given ≡ length (workers_of y.hub) → HoldsGivenUp y given
given_going y given are going count = record { count = count; each = λ k i l out. inl (are.all going k (work_of (state_of y.hub) k i l out)) }

still_given : (old new : HubValues) (i : ℕ) (local : LocalValues) → Unchanged old new → IsGivenUp old i local → IsGivenUp new i local
still_given old new i local same h =
    let with : HubValues = record { job = old.job; counters = old.counters; start = old.start; journal = record { events = old.journal.events; spare = new.journal.spare } } in
    let is : new ≡ with = λ t. record { job = same.0 t; counters = same.1 t; start = same.3 t; journal = record { events = same.2 t; spare = new.journal.spare } } in
    subst (λ (q : HubValues). IsGivenUp q i local) (sym is) (record { values = h.values; owned = h.owned; counters = h.counters })

-- what leaves the journal leaves what was given up
given_unchanged : (x y : LanedHub) (given : List (Option LocalValues)) → Unchanged x.hub y.hub → ((k : ℕ) → is_out_at y k ≡ is_out_at x k) → HoldsGivenUp x given → HoldsGivenUp y given
given_unchanged x y given same records holds = record {
  count = holds.count ∙ sym (unchanged_out x.hub y.hub 0 same).count;
  each = λ k i l out.
      let u = unchanged_out x.hub y.hub k same in
      let n = u.count in
      let below : i < worker_count (state_of x.hub) = omega (arith, l, n) in
      elim (holds.each k i below (sym (u.each i below) ∙ out)) [
        | inl o ↦ inl (records k ∙ o)
        | inr g ↦ inr (ap (λ (es : List Event). has_ended (reverse es)) same.2 ∙ g.0, (g.1.0, g.1.1, still_given x.hub y.hub i g.1.0 same g.1.2))
      ];
}

-- ---- what a call keeps

-- the hub stands, all other notes are as they were, and so is what was given up
pub record Keeps (x : LanedHub) (lane : ℕ) (y : LanedHub) : Type 0 where
  pub stands : IsLanedHub y
  pub others : OthersStay x lane y
  pub given : (given : List (Option LocalValues)) → HoldsGivenUp x given → HoldsGivenUp y given

-- a lane without a Work is free until the journal has ended
pub is_free : (x : LanedHub) (lane : ℕ) → AreLanes x → is_out_at x lane ≡ false → has_ended (reverse x.hub.journal.events) ≡ false → has_work_out (state_of x.hub) lane ≡ false
is_free x lane are free going = elim (cases_Bool (has_work_out (state_of x.hub) lane)) [ inl w ↦ absurd (both (are.all going lane w) free) | inr f ↦ f ]

-- the journal is as it was
unchanged_keeps : (x y : LanedHub) (lane : ℕ) → is_out_at x lane ≡ false → is_out_at y lane ≡ false → IsLanedHub x → IsHub y.hub → Unchanged x.hub y.hub → LeavesRecords x y lane → Keeps x lane y
unchanged_keeps x y lane free after stood hub same records =
    let ended = ap (λ (es : List Event). has_ended (reverse es)) same.2 in
    record {
      stands = (
        hub,
        lanes_kept x y lane stood.1 same.0 records (λ k other. unchanged_out x.hub y.hub k same) (λ going. sym ended ∙ going) (record {
          out = λ o. absurd (both o after);
          all = λ going w. absurd (both w (work_same (state_of x.hub) (state_of y.hub) lane (unchanged_out x.hub y.hub lane same) ∙ is_free x lane stood.1 free (sym ended ∙ going)));
        }),
      );
      others = unchanged_leaves x y lane same records.others;
      given = λ given holds. given_unchanged x y given same (λ k. elim (cases_eq k lane) [
        | inl e ↦ subst (λ n. is_out_at y n ≡ is_out_at x n) (sym e) (after ∙ sym free)
        | inr n ↦ ap (λ (r : LaneRecord). r.out) (records.others k n)
      ]) holds;
    }

-- the journal and the records are as they were
same_keeps : (x y : LanedHub) (lane : ℕ) → IsLanedHub x → IsHub y.hub → Unchanged x.hub y.hub → y.lanes ≡ x.lanes → Keeps x lane y
same_keeps x y lane stood hub same lanes =
    let ended = ap (λ (es : List Event). has_ended (reverse es)) same.2 in
    let at : (k : ℕ) → lane_at y k ≡ lane_at x k = λ k. ap (λ (rs : List LaneRecord). slice_index_or rs k no_record) lanes in
    let work = work_same (state_of x.hub) (state_of y.hub) lane (unchanged_out x.hub y.hub lane same) in
    record {
      stands = (
        hub,
        lanes_kept x y lane stood.1 same.0 (same_records x y lane lanes) (λ k other. unchanged_out x.hub y.hub k same) (λ going. sym ended ∙ going) (record {
          out = λ o. let was = stood.1.out lane (sym (ap (λ (r : LaneRecord). r.out) (at lane)) ∙ o) in (work ∙ was.0, subst (λ (r : LaneRecord). 1 ≤ r.calls) (sym (at lane)) was.1);
          all = λ going w. ap (λ (r : LaneRecord). r.out) (at lane) ∙ stood.1.all (sym ended ∙ going) lane (sym work ∙ w);
        }),
      );
      others = unchanged_leaves x y lane same (λ k other. at k);
      given = λ given holds. given_unchanged x y given same (λ k. ap (λ (r : LaneRecord). r.out) (at k)) holds;
    }

-- an event of the coordinator more
pub duty_keeps : (x y : LanedHub) (e : Event) → IsLanedHub x → IsHub y.hub → Appended x.hub e y.hub → IsDutyEvent e → y.lanes ≡ x.lanes → Keeps x x.hub.job.settings.lanes y
duty_keeps x y e stood hub more of lanes =
    let went = was_going x.hub y.hub e hub more in
    let at : (k : ℕ) → lane_at y k ≡ lane_at x k = λ k. ap (λ (rs : List LaneRecord). slice_index_or rs k no_record) lanes in
    let lane = x.hub.job.settings.lanes in
    let work = work_same (state_of x.hub) (state_of y.hub) lane (duty_out x.hub y.hub e more of lane) in
    record {
      stands = (
        hub,
        lanes_kept x y lane stood.1 more.0 (same_records x y lane lanes) (λ k other. duty_out x.hub y.hub e more of k) (λ going. went) (record {
          out = λ o. let was = stood.1.out lane (sym (ap (λ (r : LaneRecord). r.out) (at lane)) ∙ o) in (work ∙ was.0, subst (λ (r : LaneRecord). 1 ≤ r.calls) (sym (at lane)) was.1);
          all = λ going w. ap (λ (r : LaneRecord). r.out) (at lane) ∙ stood.1.all went lane (sym work ∙ w);
        }),
      );
      others = duty_leaves x y e stood.0 more of lanes;
      given = λ given holds. record {
        count = holds.count ∙ sym (duty_out x.hub y.hub e more of 0).count;
        each = λ k i l out.
            let d = duty_out x.hub y.hub e more of k in
            let n = d.count in
            let below : i < worker_count (state_of x.hub) = omega (arith, l, n) in
            inl (ap (λ (r : LaneRecord). r.out) (at k) ∙ stood.1.all went k (work_of (state_of x.hub) k i below (sym (d.each i below) ∙ out)));
      };
    }

-- an event of a lane more, after which the journal goes on
lane_keeps : (x y : LanedHub) (lane : ℕ) (e : Event) → IsLanedHub x → IsHub y.hub → Appended x.hub e y.hub → IsEventOf lane (state_of x.hub) e → is_last e ≡ false → LeavesRecords x y lane → OwnIsRight y lane → Keeps x lane y
lane_keeps x y lane e stood hub more of goes records own =
    let went = was_going x.hub y.hub e hub more in
    let going = ends_with x.hub y.hub e more ∙ goes in
    let are = lanes_kept x y lane stood.1 more.0 records (event_out x.hub y.hub lane e hub more of) (λ g. went) own in
    let count = ap (λ (s : State). worker_count s) (state_grown x.hub y.hub e more) ∙ same_count (machine x.hub) (state_of x.hub) e in
    record {
      stands = (hub, are);
      others = lane_leaves x y lane e stood.0 more of (admitted_more x.hub y.hub e more hub) records.others;
      given = λ given holds. given_going y given are going (holds.count ∙ sym count);
    }

-- ---- next

-- an event of a lane but a Take
chosen_of : (lane : ℕ) (s : State) (e : Event) → IsTrue (is_of_lane lane e) → is_take e ≡ false → IsEventOf lane s e × (is_last e ≡ false) × ((i : ℕ) → e ≡ Take i lane → ⊥)
chosen_of lane s (Take i k) of other = absurd (false≢true (sym other))
chosen_of lane s (Give i) of other = absurd (false≢true of)
chosen_of lane s (Stretch i turns) of other = (tt, refl, λ j e. cc)
chosen_of lane s (Hold i) of other = (tt, refl, λ j e. cc)
chosen_of lane s (Flag i) of other = (tt, refl, λ j e. cc)
chosen_of lane s Ask of other = absurd (false≢true of)
chosen_of lane s (Ack i) of other = (tt, refl, λ j e. cc)
chosen_of lane s (Nack i) of other = (tt, refl, λ j e. cc)
chosen_of lane s (Begin epoch) of other = absurd (false≢true of)
chosen_of lane s (Mark i) of other = (tt, refl, λ j e. cc)
chosen_of lane s (Seal epoch) of other = absurd (false≢true of)
chosen_of lane s (Kept epoch) of other = absurd (false≢true of)
chosen_of lane s End of other = absurd (false≢true of)
chosen_of lane s (Stop cause) of other = absurd (false≢true of)

same_hub : (old new : HubValues) → new ≡ old → Unchanged old new
same_hub old new e = (ap (λ (h : HubValues). h.job) e, ap (λ (h : HubValues). h.counters) e, ap (λ (h : HubValues). h.journal.events) e, ap (λ (h : HubValues). h.start) e)

one_call : (calls : ℕ) → 1 ≤ min (calls + 1) (2 ^ 64 - 1)
one_call calls = omega arith

-- what the engine chose, or that the journal has ended
pub ended_chosen : (old new : HubValues) (lane : ℕ) (answer : Next) → answer ≡ Ended → new ≡ old → has_ended (reverse old.journal.events) ≡ true → Chooses old lane answer new
ended_chosen old new lane answer a n ended = subst (λ (q : Next). Chooses old lane q new) (sym a) (n, ended)

pub same_chosen : (old new mid : HubValues) (lane : ℕ) (answer chosen : Next) → answer ≡ chosen → new ≡ mid → Chooses old lane chosen mid → Chooses old lane answer new
same_chosen old new mid lane answer chosen a n c = subst (λ (q : Next). Chooses old lane q new) (sym a) (subst (λ (h : HubValues). Chooses old lane chosen h) (sym n) c)

-- what next answers a lane that is free
pub next_keeps : (x y : LanedHub) (lane : ℕ) (answer : Next) (r was : LaneRecord) (long : ℕ) → IsLanedHub x → lane < x.hub.job.settings.lanes → is_out_at x lane ≡ false → IsHub y.hub → Chooses x.hub lane answer y.hub →
    r ≡ after_answer (answer_of answer) long was → y.lanes ≡ slice_set x.lanes lane r → Keeps x lane y
next_keeps x y lane answer r was long stood within free hub chosen recorded lanes = go answer chosen recorded
  where
    own : lane_at y lane ≡ r
    own = let e = stood.1.count in set_own x y lane r (omega (arith, e, within)) lanes

    rests : (answer : Next) → (answer_of answer == 1) ≡ false → r ≡ after_answer (answer_of answer) long was → is_out_at y lane ≡ false
    rests answer other recorded = ap (λ (q : LaneRecord). q.out) (own ∙ recorded) ∙ other

    still : (answer : Next) → (answer_of answer == 1) ≡ false → r ≡ after_answer (answer_of answer) long was → Unchanged x.hub y.hub → Keeps x lane y
    still answer other recorded same = unchanged_keeps x y lane free (rests answer other recorded) stood hub same (set_records x y lane r lanes)

    took : (work : Work) → Chooses x.hub lane (Took work) y.hub → r ≡ after_answer 1 long was → Keeps x lane y
    took work c recorded =
        lane_keeps x y lane (Take work.worker lane) stood hub c.1 refl refl (set_records x y lane r lanes) (record {
          out = λ o. (
            work_of (state_of y.hub) lane work.worker c.2.out.in_range (out_with (state_of y.hub) lane work.worker work.place c.2.out),
            subst (λ (q : LaneRecord). 1 ≤ q.calls) (sym (own ∙ recorded)) (one_call was.calls),
          );
          all = λ going w. ap (λ (q : LaneRecord). q.out) (own ∙ recorded);
        })

    did : (e : Event) → Chooses x.hub lane (Did e) y.hub → r ≡ after_answer 2 long was → Keeps x lane y
    did e c recorded =
        let of = chosen_of lane (state_of x.hub) e ((lane_choices_are_exact (machine x.hub) (state_of x.hub) lane c.0.0 c.0.1).0 e c.0.2).1 c.1 in
        lane_keeps x y lane e stood hub c.2 of.0 of.1 (set_records x y lane r lanes) (record {
          out = λ o. absurd (both o (rests (Did e) refl recorded));
          all = λ going w. absurd (both w (lane_stays x.hub y.hub lane e (is_free x lane stood.1 free (was_going x.hub y.hub e hub c.2)) of.2 c.2));
        })

    go : (answer : Next) → Chooses x.hub lane answer y.hub → r ≡ after_answer (answer_of answer) long was → Keeps x lane y
    go (Took work) c recorded = took work c recorded
    go (Did e) c recorded = did e c recorded
    go Idle c recorded = still Idle refl recorded (same_hub x.hub y.hub c.1)
    go Ended c recorded = still Ended refl recorded (same_hub x.hub y.hub c.0)
    go NoMemory c recorded = still NoMemory refl recorded c

-- ---- the coordinator's calls

-- an event of the coordinator more, but for a journal that had ended
pub duty_unless_keeps : (x y : LanedHub) (e : Event) → IsLanedHub x → IsHub y.hub → AppendedUnlessEnded x.hub e y.hub → IsDutyEvent e → y.lanes ≡ x.lanes → Keeps x x.hub.job.settings.lanes y
duty_unless_keeps x y e stood hub more of lanes = go (has_ended (reverse x.hub.journal.events)) more
  where
    go : (b : Bool) → MatchBool b (y.hub ≡ x.hub) (Appended x.hub e y.hub) → Keeps x x.hub.job.settings.lanes y
    go true m = same_keeps x y x.hub.job.settings.lanes stood hub (same_hub x.hub y.hub m) lanes
    go false m = duty_keeps x y e stood hub m of lanes

-- a Stop for want of memory is in no note
pub stop_is_told : (x y : LanedHub) (cause : StopCause) → IsHub x.hub → AppendedUnlessEnded x.hub (Stop cause) y.hub → y.lanes ≡ x.lanes → cause ≡ Memory → (k : ℕ) → note_of y k ≡ note_of x k
stop_is_told x y cause hub more lanes is k = go (has_ended (reverse x.hub.journal.events)) refl more
  where
    go : (b : Bool) → has_ended (reverse x.hub.journal.events) ≡ b → MatchBool b (y.hub ≡ x.hub) (Appended x.hub (Stop cause) y.hub) → note_of y k ≡ note_of x k
    go true e m = let same : y ≡ x = λ t. record { hub = m t; lanes = lanes t } in ap (λ (q : LanedHub). note_of q k) same
    go false e m = memory_leaves x y hub e (subst (λ (q : StopCause). Appended x.hub (Stop q) y.hub) is m) lanes k

duty_event : (e : Event) → IsTrue (is_duty e) → IsDutyEvent e
duty_event Ask of = tt
duty_event (Begin epoch) of = tt
duty_event (Seal epoch) of = tt
duty_event End of = tt
duty_event (Take i k) of = absurd (false≢true of)
duty_event (Give i) of = absurd (false≢true of)
duty_event (Stretch i turns) of = absurd (false≢true of)
duty_event (Hold i) of = absurd (false≢true of)
duty_event (Flag i) of = absurd (false≢true of)
duty_event (Ack i) of = absurd (false≢true of)
duty_event (Nack i) of = absurd (false≢true of)
duty_event (Mark i) of = absurd (false≢true of)
duty_event (Kept epoch) of = absurd (false≢true of)
duty_event (Stop cause) of = absurd (false≢true of)

-- what duty answers
pub duty_call_keeps : (x y : LanedHub) (answer : Duty) → IsLanedHub x → IsHub y.hub → ChoosesDuty x.hub answer y.hub → y.lanes ≡ x.lanes → Keeps x x.hub.job.settings.lanes y
duty_call_keeps x y (duty.Did e) stood hub c lanes = duty_keeps x y e stood hub c.2 (duty_event e ((duties_are_exact (machine x.hub) (state_of x.hub)).0 e c.0).1) lanes
duty_call_keeps x y (duty.Sealed epoch) stood hub c lanes = duty_keeps x y (Seal epoch) stood hub c.1 tt lanes
duty_call_keeps x y duty.Nothing stood hub c lanes = same_keeps x y x.hub.job.settings.lanes stood hub (same_hub x.hub y.hub c.1) lanes
duty_call_keeps x y duty.Ended stood hub c lanes = same_keeps x y x.hub.job.settings.lanes stood hub (same_hub x.hub y.hub c.0) lanes
duty_call_keeps x y duty.NoMemory stood hub c lanes = same_keeps x y x.hub.job.settings.lanes stood hub c lanes

-- ---- the beginning

-- no lane has a Work out, and nothing was given up
pub begun_stands : (x : LanedHub) (job : Job) (counters : ℕ) (start : SnapshotParts) (given : List (Option LocalValues)) → Begins job counters start x.hub → x.lanes ≡ new_lanes job.settings.lanes → length given ≡ job.settings.fragments → IsHub x.hub →
    IsLanedHub x × HoldsGivenUp x given
begun_stands x job counters start given begins lanes count hub = (
  (
    hub,
    record {
      count = ap (λ (rs : List LaneRecord). length rs) lanes ∙ (length-replicate job.settings.lanes no_record ∙ ap (λ (j : Job). j.settings.lanes) (sym begins.0));
      out = λ k o. absurd (both o (ap (λ (rs : List LaneRecord). (slice_index_or rs k no_record).out) lanes ∙ ap (λ (r : LaneRecord). r.out) (new_at job.settings.lanes k)));
      all = λ going k w. absurd (both w (free k));
    },
  ),
  record {
    count = count ∙ (ap (λ (j : Job). j.settings.fragments) (sym begins.0) ∙ sym (workers_are x.hub hub));
    each = λ k i l out. absurd (both (work_of (state_of x.hub) k i l out) (free k));
  },
)
  where
    free : (k : ℕ) → has_work_out (state_of x.hub) k ≡ false
    free k = calm_is_free x.hub k (calm_at_beginning x.hub hub begins.2)

-- ---- a Give

record_there : (rs : List LaneRecord) (k : ℕ) → (slice_index_or rs k no_record).out ≡ true → k < length rs
record_there [] k out = absurd (false≢true out)
record_there (r ∷ rs) zero out = omega arith
record_there (r ∷ rs) (suc k) out = let l = record_there rs k out in omega (arith, l)

-- the journal hadn't ended
pub appended_going : (old new : HubValues) (e : Event) → has_ended (reverse old.journal.events) ≡ false → Appended old e new → AppendedUnlessEnded old e new
appended_going old new e going more = subst (λ (b : Bool). MatchBool b (new ≡ old) (Appended old e new)) (sym going) more

-- a Give before the end
pub give_keeps : (x y : LanedHub) (lane : ℕ) (work : Work) (r : LaneRecord) → IsLanedHub x → IsHub y.hub → is_out_at x lane ≡ true → MayGive x.hub lane work → Appended x.hub (Give work.worker) y.hub → r.out ≡ false →
    y.lanes ≡ slice_set x.lanes lane r → Keeps x lane y
give_keeps x y lane work r stood hub out may more rests lanes =
    let own = ap (λ (q : LaneRecord). q.out) (set_own x y lane r (record_there x.lanes lane out) lanes) ∙ rests in
    lane_keeps x y lane (Give work.worker) stood hub more (out_with (state_of x.hub) lane work.worker work.place may.out) refl (set_records x y lane r lanes) (record {
      out = λ o. absurd (both o own);
      all = λ going w. absurd (both w (freed x.hub y.hub lane work.worker work.place stood.0 may.out more));
    })

-- a Give after the end
pub end_give_keeps : (x : LanedHub) (lane : ℕ) (r : LaneRecord) → IsLanedHub x → has_ended (reverse x.hub.journal.events) ≡ true → is_out_at x lane ≡ true → r.out ≡ false →
    IsLanedHub (record { hub = x.hub; lanes = slice_set x.lanes lane r }) × OthersStay x lane (record { hub = x.hub; lanes = slice_set x.lanes lane r })
end_give_keeps x lane r stood ended out rests =
    let y : LanedHub = record { hub = x.hub; lanes = slice_set x.lanes lane r } in
    let same = same_hub x.hub x.hub refl in
    let own = ap (λ (q : LaneRecord). q.out) (set_own x y lane r (record_there x.lanes lane out) refl) ∙ rests in
    let records = set_records x y lane r refl in (
      (
        stood.0,
        lanes_kept x y lane stood.1 refl records (λ k other. unchanged_out x.hub x.hub k same) (λ going. going) (record {
          out = λ o. absurd (both o own);
          all = λ going w. absurd (both ended going);
        }),
      ),
      unchanged_leaves x y lane same records.others,
    )

-- the Work that was given after the end is given up
pub one_given_up : (x : LanedHub) (lane : ℕ) (work : Work) (r : LaneRecord) (local : LocalValues) (given : List (Option LocalValues)) → IsHub x.hub → has_ended (reverse x.hub.journal.events) ≡ true → MayGive x.hub lane work →
    IsGivenUp x.hub work.worker local → HoldsGivenUp x given → HoldsGivenUp (record { hub = x.hub; lanes = slice_set x.lanes lane r }) (slice_set given work.worker (Some local))
one_given_up x lane work r local given hub ended may is holds = record {
  count = length-set given work.worker (Some local) ∙ holds.count;
  each = λ k i l out. elim (cases_eq i work.worker) [
    | inl e ↦ inr (ended, (local, subst (λ n. slice_index_or (slice_set given work.worker (Some local)) n None ≡ Some local) (sym e) here, subst (λ n. IsGivenUp x.hub n local) (sym e) is))
    | inr n ↦ elim (cases_eq k lane) [
      | inl e ↦ absurd (n ((one_each x.hub hub).one lane i work.worker l may.out.in_range (subst (λ n. is_out_with (state_of x.hub) n i ≡ true) e out) (out_with (state_of x.hub) lane work.worker work.place may.out)))
      | inr m ↦ elim (holds.each k i l out) [
        | inl o ↦ inl (ap (λ (q : LaneRecord). q.out) (get_or-set_other x.lanes lane k r no_record m) ∙ o)
        | inr g ↦ inr (g.0, (g.1.0, get_or-set_other given work.worker i (Some local) None n ∙ g.1.1, g.1.2))
      ]
    ]
  ];
}
  where
    here : slice_index_or (slice_set given work.worker (Some local)) work.worker None ≡ Some local
    here = get_or-set_same given work.worker (Some local) None (let l = may.out.in_range in let c = holds.count in omega (arith, l, c))

-- ---- the values of the start

-- a Work that is given has a value for each place
work_length : (h : HubValues) (lane : ℕ) (work : Work) → IsHub h → MayGive h lane work → length work.local.values ≡ length (places (piece_of_worker h work.worker))
work_length h lane work hub may =
    let i = work.worker in
    let sys = machine h in
    let whole = below-length sys.equations.order (worker_at (workers_of h) i).values (starts_of sys.equations (places (piece_of_worker h i))) (formed h hub i may.out.in_range).values ∙ length-map (places (piece_of_worker h i)) sys.equations.start in
    let l = may.out.in_range in
    let w = workers_are h hub in
    let c = piece_count h in
    ap (λ (l : List ℕ). length l) may.values ∙ (new-length sys (sound h hub) i (omega (arith, l, w, c)) (worker_at (workers_of h) i) whole ∙ whole)

form_at : (sys : System) (pieces : List Piece) (parts : List PartValues) (i : ℕ) → AllZip (IsPartInForm sys) pieces parts → i < length pieces → IsPartInForm sys (piece_at pieces i) (part_at i parts)
form_at sys [] parts i h l = absurd (omega (arith, l))
form_at sys (piece ∷ pieces) [] i h l = absurd h
form_at sys (piece ∷ pieces) (part ∷ parts) zero h l = h.0
form_at sys (piece ∷ pieces) (part ∷ parts) (suc i) h l = form_at sys pieces parts i h.1 (omega (arith, l))

start_length : (h : HubValues) (i : ℕ) → IsHub h → i < worker_count (state_of h) → length (part_at i h.start.parts).values ≡ length (places (piece_of_worker h i))
start_length h i hub l =
    let sys = machine h in
    let w = workers_are h hub in
    let c = piece_count h in
    let form = form_at sys sys.pieces h.start.parts i hub.start.parts (omega (arith, l, w, c)) in
    below-length sys.equations.order (part_at i h.start.parts).values (starts_of sys.equations (places (piece_of_worker h i))) form.values ∙ length-map (places (piece_of_worker h i)) sys.equations.start

-- the start has as many values as a Work of the worker
pub start_fits : (h : HubValues) (lane : ℕ) (work : Work) → IsHub h → MayGive h lane work → length (part_at work.worker h.start.parts).values ≡ length work.local.values
start_fits h lane work hub may = start_length h work.worker hub may.out.in_range ∙ sym (work_length h lane work hub may)

-- a Work with the values of the start
pub started_again : (h : HubValues) (lane : ℕ) (work : Work) (values : List ℕ) (local : LocalValues) → IsHub h → MayGive h lane work → values ≡ (part_at work.worker h.start.parts).values → local ≡ loaded work.local values → IsGivenUp h work.worker local
started_again h lane work values local hub may v e =
    let start = (part_at work.worker h.start.parts).values in
    let piece = piece_of_worker h work.worker in
    let long = start_length h work.worker hub may.out.in_range in
    let both_parts = length-append piece.owned piece.mirrors in
    let owned = may.sizes.owned in
    subst (λ (l : LocalValues). IsGivenUp h work.worker l) (sym (e ∙ ap (λ (xs : List ℕ). loaded work.local xs) v)) (record {
      values = refl;
      owned = length-take-le (length work.local.before) start (omega (arith, long, both_parts, owned)) ∙ owned;
      counters = may.sizes.room;
    })

-- ---- the end

-- where no lane has a Work out, who is out was given up
pub all_given_up : (x : LanedHub) (given : List (Option LocalValues)) → IsLanedHub x → ((k : ℕ) → k < x.hub.job.settings.lanes → is_out_at x k ≡ false) → HoldsGivenUp x given → AreGivenUp x.hub given
all_given_up x given stood free holds = record {
  count = holds.count;
  each = λ i l out.
      let k = (have_lanes x.hub stood.0).each i l out in
      elim (holds.each k.0 i l (and_from _ _ out (ap (λ (o : Option ℕ). is_lane k.0 o) k.2 ∙ eq-eqb k.0 k.0 refl))) [
        | inl o ↦ absurd (both o (free k.0 k.1))
        | inr g ↦ g.1
      ];
}
