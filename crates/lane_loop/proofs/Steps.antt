-- What a lane's steps at the hub do to its note.
use Rattle.std.proofs.Common.{◌≡◌, ℕ, ◌+◌, ◌-◌, ◌^◌, ◌<◌, ◌≤◌, ◌⊎◌, inl, inr, min, Bool, true, false, ◌==◌, MatchBool, refl, sym, ◌∙◌, ap, subst, arith, List, [], ◌∷◌, ◌++◌, length, reverse, slice_index_or, slice_set}
use Rattle.std.proofs.lemmas.Bool.{false≢true, cases_lt}
use Rattle.std.proofs.lemmas.List.{get_or-set_same}
use Rattle.graph_core.specs.declared.job.Job.{Job}
use Rattle.grape_event.specs.declared.event.Event.{Event}
use Rattle.grape_event.specs.declared.event.Event.TheVariants.{Stop}
use Rattle.grape_event.specs.declared.event.StopCause.TheVariants.{Memory}
use Rattle.token_cut.specs.Parts.{SnapshotParts}
use Rattle.legal_journal.specs.Past.{has_ended}
use Rattle.hub_engine.specs.declared.work.Work.{Work}
use Rattle.hub_engine.specs.declared.work.Next.{Next}
use Rattle.hub_engine.specs.declared.work.Next.TheVariants.{Took, Did, Idle, Ended, NoMemory}
use Rattle.hub_engine.specs.HubValues.{HubValues}
use Rattle.hub_engine.specs.Calls.{Appended, AppendedUnlessEnded, Unchanged, Chooses, IsWork, MayGive, ReadyWhereTook}
use Rattle.grape_hub.specs.declared.lane_record.LaneRecord.{LaneRecord}
use Rattle.grape_hub.specs.LanedHub.{LanedHub, lane_at, is_out_at, no_record, answer_of, after_answer, after_give, lanes_after_answer, lanes_after_give, IsLanedHub}
use Rattle.grape_hub.specs.Notes.{ground_of, ground_in, calls_in, answer_in, note_of, HasNoWork}
use Rattle.grape_hub.specs.Theorems.{GroundsTell, NotesBegin, EmptyIsFree, RecordsTell, WorksTell}
use Rattle.lane_loop.specs.Turns.{IsOutIn, HasLane, HasCalled, HasEvaluated, IsOutWhereTook, lacks_memory, StopsForMemory, ChoosesOrStops}

-- ---- the ground

-- two states of one run
pub record IsOfOne (old new : HubValues) : Type 0 where
  pub job : new.job ≡ old.job
  pub counters : new.counters ≡ old.counters
  pub start : new.start ≡ old.start

of_equal : (old new : HubValues) → new ≡ old → IsOfOne old new
of_equal old new e = record { job = ap (λ (h : HubValues). h.job) e; counters = ap (λ (h : HubValues). h.counters) e; start = ap (λ (h : HubValues). h.start) e }

pub of_unless : (had : Bool) (old new : HubValues) (e : Event) → MatchBool had (new ≡ old) (Appended old e new) → IsOfOne old new
of_unless true old new e same = of_equal old new same
of_unless false old new e more = record { job = more.0; counters = more.1; start = more.3 }

pub of_chosen : (old new : HubValues) (lane : ℕ) (r : Next) → Chooses old lane r new → IsOfOne old new
of_chosen old new lane (Took work) c = record { job = c.1.0; counters = c.1.1; start = c.1.3 }
of_chosen old new lane (Did e) c = record { job = c.2.0; counters = c.2.1; start = c.2.3 }
of_chosen old new lane Idle c = of_equal old new c.1
of_chosen old new lane Ended c = of_equal old new c.0
of_chosen old new lane NoMemory c = record { job = c.0; counters = c.1; start = c.3 }

ground_stays : NotesBegin → (x y : LanedHub) (k : ℕ) → IsOfOne x.hub y.hub → ground_in (note_of y k) ≡ ground_in (note_of x k)
ground_stays begin x y k same =
    begin y k ∙ (ap (λ (job : Job). ground_of job y.hub.start) same.job ∙ (ap (λ (start : SnapshotParts). ground_of x.hub.job start) same.start ∙ sym (begin x k)))

-- the job that a note's ground is of is that of the hub
pub job_told : GroundsTell → NotesBegin → (x : LanedHub) (k : ℕ) (note : List ℕ) (job : Job) (start : SnapshotParts) → note_of x k ≡ note → ground_in note ≡ ground_of job start → x.hub.job ≡ job
job_told tell begin x k note job start same ground = (tell x.hub.job job x.hub.start start (sym (begin x k) ∙ (ap ground_in same ∙ ground))).0

pub lane_there : GroundsTell → NotesBegin → (x : LanedHub) (k : ℕ) → HasLane k (note_of x k) → k < x.hub.job.settings.lanes
lane_there tell begin x k has = subst (λ (job : Job). k < job.settings.lanes) (sym (job_told tell begin x k (note_of x k) has.0 has.1 refl has.2)) has.3

same_lanes : (x y : LanedHub) (k : ℕ) → IsOfOne x.hub y.hub → k < x.hub.job.settings.lanes → k < y.hub.job.settings.lanes
same_lanes x y k same l = subst (λ (job : Job). k < job.settings.lanes) (sym same.job) l

-- ---- a call of next

-- the note after a call of next
pub record HasAnswered (before after : List ℕ) (counters : Job → ℕ) (lane : ℕ) (r : Next) : Type 0 where
  pub ground : ground_in after ≡ ground_in before
  pub calls : calls_in after ≡ min (calls_in before + 1) (2 ^ 64 - 1)
  pub answer : answer_in after ≡ answer_of r
  pub out : IsOutWhereTook counters lane after r

record_at : (x y : LanedHub) (lane : ℕ) (r : LaneRecord) → lane < length x.lanes → y.lanes ≡ slice_set x.lanes lane r → lane_at y lane ≡ r
record_at x y lane r l lanes = ap (λ (ls : List LaneRecord). slice_index_or ls lane no_record) lanes ∙ get_or-set_same x.lanes lane r no_record l

lane_recorded : (x : LanedHub) (lane : ℕ) → IsLanedHub x → lane < x.hub.job.settings.lanes → lane < length x.lanes
lane_recorded x lane stands l = let n = stands.1.count in omega (arith, l, n)

out_where : EmptyIsFree → (x y : LanedHub) (counters : Job → ℕ) (lane : ℕ) (r : Next) → IsLanedHub y → lane < y.hub.job.settings.lanes → y.hub.counters ≡ counters y.hub.job → Chooses x.hub lane r y.hub → ReadyWhereTook y.hub r →
    is_out_at y lane ≡ (answer_of r == 1) → IsOutWhereTook counters lane (note_of y lane) r
out_where free x y counters lane (Took work) stands l counted chosen ready out =
    (y, record { stands = stands; in_range = l; tells = refl; counted = counted; out = out }, subst (λ (fresh : Bool). IsWork y.hub lane fresh work) (sym chosen.2.is_first) chosen.2, ready)
out_where free x y counters lane (Did e) stands l counted chosen ready out = (free y lane stands l).1 out
out_where free x y counters lane Idle stands l counted chosen ready out = (free y lane stands l).1 out
out_where free x y counters lane Ended stands l counted chosen ready out = (free y lane stands l).1 out
out_where free x y counters lane NoMemory stands l counted chosen ready out = (free y lane stands l).1 out

called : (n m : ℕ) → n ≡ min (m + 1) (2 ^ 64 - 1) → 1 ≤ n
called n m e = omega (arith, e)

pub answered : NotesBegin → EmptyIsFree → RecordsTell → (x y : LanedHub) (counters : Job → ℕ) (lane : ℕ) (r : Next) → IsLanedHub x → IsLanedHub y → lane < x.hub.job.settings.lanes → x.hub.counters ≡ counters x.hub.job →
    Chooses x.hub lane r y.hub → ReadyWhereTook y.hub r → y.lanes ≡ lanes_after_answer x lane r y.hub → HasAnswered (note_of x lane) (note_of y lane) counters lane r
answered begin free records x y counters lane r stood stands l counted chosen ready lanes =
    let same = of_chosen x.hub y.hub lane r chosen in
    let after = after_answer (answer_of r) (length y.hub.journal.events) (lane_at x lane) in
    let at = record_at x y lane after (lane_recorded x lane stood l) lanes in
    let there = same_lanes x y lane same l in
    let told = records y lane stands there in
    let calls : (lane_at y lane).calls ≡ min ((lane_at x lane).calls + 1) (2 ^ 64 - 1) = ap (λ (q : LaneRecord). q.calls) at in
    record {
      ground = ground_stays begin x y lane same;
      calls = told.0 ∙ (calls ∙ ap (λ n. min (n + 1) (2 ^ 64 - 1)) (sym (records x lane stood l).0));
      answer = told.1 (called (lane_at y lane).calls (lane_at x lane).calls calls) ∙ ap (λ (q : LaneRecord). q.answer) at;
      out = out_where free x y counters lane r stands there (same.counters ∙ (counted ∙ ap counters (sym same.job))) chosen ready (ap (λ (q : LaneRecord). q.out) at);
    }

-- the same where what follows leaves the note
pub answered_still : (before between after : List ℕ) (counters : Job → ℕ) (lane : ℕ) (r : Next) → after ≡ between → HasAnswered before between counters lane r → HasAnswered before after counters lane r
answered_still before between after counters lane r same has = subst (λ (n : List ℕ). HasAnswered before n counters lane r) (sym same) has

-- ---- several calls of next

pub has_lane : (lane : ℕ) (before after : List ℕ) → ground_in after ≡ ground_in before → HasLane lane before → HasLane lane after
has_lane lane before after same (job, start, ground, l) = (job, start, same ∙ ground, l)

-- the note after one to `most` calls of next, of which this is the last answer
pub record HasVisited (before after : List ℕ) (counters : Job → ℕ) (most lane : ℕ) (r : Next) : Type 0 where
  pub ground : ground_in after ≡ ground_in before
  pub calls : HasCalled most (calls_in before) (calls_in after)
  pub answer : answer_in after ≡ answer_of r
  pub out : IsOutWhereTook counters lane after r

rises_by : (first before calls after : ℕ) → (before + calls < 2 ^ 64 - 1) ⊎ (2 ^ 64 - 1 ≤ before + calls) → first ≤ before → 1 ≤ calls → after ≡ min (before + calls) (2 ^ 64 - 1) → (first < after) ⊎ (after ≡ 2 ^ 64 - 1)
rises_by first before calls after (inl below) l some e = inl (omega (arith, below, l, some, e))
rises_by first before calls after (inr above) l some e = inr (omega (arith, above, e))

rises : (first before calls after : ℕ) → first ≤ before → 1 ≤ calls → after ≡ min (before + calls) (2 ^ 64 - 1) → (first < after) ⊎ (after ≡ 2 ^ 64 - 1)
rises first before calls after l some e = rises_by first before calls after (cases_lt (before + calls) (2 ^ 64 - 1)) l some e

pub calls_once : (most before after : ℕ) → 1 ≤ most → after ≡ min (before + 1) (2 ^ 64 - 1) → HasCalled most before after
calls_once most before after some e = (1, omega (arith), some, e)

pub called_once : (before after : ℕ) → HasCalled 1 before after → after ≡ min (before + 1) (2 ^ 64 - 1)
called_once before after (calls, some, few, e) = omega (arith, some, few, e)

pub calls_more : (done before between after : ℕ) → HasCalled done before between → after ≡ min (between + 1) (2 ^ 64 - 1) → HasCalled (done + 1) before after
calls_more done before between after (calls, some, few, e) more = (calls + 1, omega (arith, some), omega (arith, few), omega (arith, e, more))

pub calls_within : (done most before after : ℕ) → done ≤ most → HasCalled done before after → HasCalled most before after
calls_within done most before after l (calls, some, few, e) = (calls, some, omega (arith, few, l), e)

-- the count rises, or stands at its greatest
pub calls_rise : (most first before after : ℕ) → (first ≡ before) ⊎ ((first < before) ⊎ (before ≡ 2 ^ 64 - 1)) → HasCalled most before after → (first < after) ⊎ (after ≡ 2 ^ 64 - 1)
calls_rise most first before after (inl same) (calls, some, few, e) = rises first before calls after (omega (arith, same)) some e
calls_rise most first before after (inr (inl more)) (calls, some, few, e) = rises first before calls after (omega (arith, more)) some e
calls_rise most first before after (inr (inr full)) (calls, some, few, e) = inr (omega (arith, full, e))

-- ---- a Stop

stops_if : (had : Bool) (old between new : HubValues) → Unchanged old between → MatchBool had (new ≡ between) (Appended between (Stop Memory) new) → MatchBool had (Unchanged old new) (Appended old (Stop Memory) new)
stops_if true old between new same e = (
  ap (λ (h : HubValues). h.job) e ∙ same.0,
  ap (λ (h : HubValues). h.counters) e ∙ same.1,
  ap (λ (h : HubValues). h.journal.events) e ∙ same.2,
  ap (λ (h : HubValues). h.start) e ∙ same.3,
)
stops_if false old between new same more = (more.0 ∙ same.0, more.1 ∙ same.1, more.2 ∙ ap (λ (es : List Event). es ++ Stop Memory ∷ []) same.2, more.3 ∙ same.3)

-- a Stop after a call for which there was no memory, which has changed nothing
pub stops_after : (old between new : HubValues) → Unchanged old between → AppendedUnlessEnded between (Stop Memory) new → StopsForMemory old new
stops_after old between new same after =
    let had = ap (λ (es : List Event). has_ended (reverse es)) same.2 in
    subst (λ (b : Bool). MatchBool b (Unchanged old new) (Appended old (Stop Memory) new)) had (stops_if (has_ended (reverse between.journal.events)) old between new same after)

-- what next chose where there was memory for it, and where there was none
pub chose : (old new : HubValues) (lane : ℕ) (answer : Next) → lacks_memory answer ≡ false → Chooses old lane answer new → ChoosesOrStops old lane answer new
chose old new lane (Took work) had chosen = chosen
chose old new lane (Did e) had chosen = chosen
chose old new lane Idle had chosen = chosen
chose old new lane Ended had chosen = chosen
chose old new lane NoMemory had chosen = absurd (false≢true (sym had))

pub stopped : (old between new : HubValues) (lane : ℕ) (answer : Next) → lacks_memory answer ≡ true → Chooses old lane answer between → AppendedUnlessEnded between (Stop Memory) new → ChoosesOrStops old lane answer new
stopped old between new lane (Took work) had chosen after = absurd (false≢true had)
stopped old between new lane (Did e) had chosen after = absurd (false≢true had)
stopped old between new lane Idle had chosen after = absurd (false≢true had)
stopped old between new lane Ended had chosen after = absurd (false≢true had)
stopped old between new lane NoMemory had chosen after = stops_after old between new chosen after

-- ---- a give

-- what is asked of a hub to which a Work is given back
pub record MayTakeBack (y : LanedHub) (lane : ℕ) (work : Work) : Type 0 where
  pub in_range : lane < y.hub.job.settings.lanes
  pub out : is_out_at y lane ≡ true
  pub given : MayGive y.hub lane work

pub may_take_back : GroundsTell → NotesBegin → WorksTell → (y : LanedHub) (counters : Job → ℕ) (lane : ℕ) (work : Work) → IsLanedHub y → y.hub.counters ≡ counters y.hub.job → HasEvaluated counters lane (note_of y lane) work →
    MayTakeBack y lane work
may_take_back tell begin works y counters lane work stands counted (x, was, may) =
    let job = job_told tell begin x lane (note_of y lane) y.hub.job y.hub.start was.tells (begin y lane) in
    let still = works x y lane work was.stands stands was.in_range was.tells (was.counted ∙ (ap counters job ∙ sym counted)) was.out may in
    record { in_range = subst (λ (j : Job). lane < j.settings.lanes) job was.in_range; out = still.0; given = still.1 }

-- the note after a give
pub record HasGiven (before after : List ℕ) : Type 0 where
  pub ground : ground_in after ≡ ground_in before
  pub empty : HasNoWork after
  pub calls : calls_in after ≡ calls_in before
  pub answer : answer_in after ≡ answer_in before

pub gave : NotesBegin → EmptyIsFree → RecordsTell → (y z : LanedHub) (lane : ℕ) → IsLanedHub y → IsLanedHub z → lane < y.hub.job.settings.lanes → is_out_at y lane ≡ true → IsOfOne y.hub z.hub → z.lanes ≡ lanes_after_give y lane →
    HasGiven (note_of y lane) (note_of z lane)
gave begin free records y z lane stood stands l out same lanes =
    let at = record_at y z lane (after_give (lane_at y lane)) (lane_recorded y lane stood l) lanes in
    let there = same_lanes y z lane same l in
    let calls : (lane_at z lane).calls ≡ (lane_at y lane).calls = ap (λ (q : LaneRecord). q.calls) at in
    let some = (stood.1.out lane out).1 in
    let before = records y lane stood l in
    let after = records z lane stands there in
    record {
      ground = ground_stays begin y z lane same;
      empty = (free z lane stands there).1 (ap (λ (q : LaneRecord). q.out) at);
      calls = after.0 ∙ (calls ∙ sym before.0);
      answer = after.1 (subst (λ n. 1 ≤ n) (sym calls) some) ∙ (ap (λ (q : LaneRecord). q.answer) at ∙ sym (before.1 some));
    }

-- ---- a seat that goes in and comes out

-- the value that a seat finds has the seat's note
pub told_of : (x found : LanedHub) (number lane : ℕ) (note : List ℕ) → x ≡ found → number ≡ lane → note_of found number ≡ note → note_of x lane ≡ note
told_of x found number lane note same at tells = ap (λ (h : LanedHub). note_of h lane) same ∙ (ap (note_of found) (sym at) ∙ tells)

-- What is said of the hub's notes is said of the seat's: it found this value, and left with the note of that one.
pub seat_visited : (x found y : LanedHub) (counters : Job → ℕ) (most lane number last : ℕ) (before after : List ℕ) (r q : Next) → r ≡ q → x ≡ found → number ≡ lane → note_of found number ≡ before → last ≡ number → after ≡ note_of y last →
    HasVisited (note_of x lane) (note_of y lane) counters most lane r → HasVisited before after counters most lane q
seat_visited x found y counters most lane number last before after r q is same at tells stays left has =
    let now = left ∙ ap (note_of y) (stays ∙ at) in
    let of_seat =
    subst (λ (n : List ℕ). HasVisited n after counters most lane r) (told_of x found number lane before same at tells) (subst (λ (n : List ℕ). HasVisited (note_of x lane) n counters most lane r) (sym now) has) in
    subst (λ (a : Next). HasVisited before after counters most lane a) is of_seat

pub out_at : (x : LanedHub) (counters : Job → ℕ) (lane : ℕ) (note told : List ℕ) → told ≡ note → IsOutIn x counters lane note → IsOutIn x counters lane told
out_at x counters lane note told same out = subst (λ (n : List ℕ). IsOutIn x counters lane n) (sym same) out
