-- One turn of the lane.
use Rattle.std.proofs.Common.{◌≡◌, ℕ, ◌<◌, inl, inr, Bool, true, false, MatchBool, Option, refl, sym, ◌∙◌, ap, subst, arith, List, [], ◌∷◌, length, reverse, slice_index_or, length-append}
use Rattle.std.proofs.lemmas.Bool.{false≢true, MatchBool-at_false}
use Rattle.std.proofs.lemmas.List.{reverse-append, get_or-set_same}
use Rattle.graph_core.specs.declared.job.Job.{Job}
use Rattle.grape_event.specs.declared.event.Event.{Event}
use Rattle.grape_event.specs.declared.event.Event.TheVariants.{Take, Give, Stretch, Hold, Flag, Ask, Ack, Nack, Begin, Mark, Seal, Kept, End, Stop}
use Rattle.grape_event.specs.declared.event.StopCause.TheVariants.{Memory}
use Rattle.grape_event.specs.Events.{is_take}
use Rattle.token_cut.specs.Parts.{SnapshotParts}
use Rattle.legal_journal.specs.Past.{has_ended}
use Rattle.legal_journal.specs.Choices.{is_duty}
use Rattle.legal_journal.specs.Theorems.{DutiesAreExact}
use Rattle.hub_engine.specs.declared.work.Work.{Work}
use Rattle.hub_engine.specs.declared.work.Duty.TheVariants.{Did}
use Rattle.hub_engine.specs.HubValues.{HubValues}
use Rattle.hub_engine.specs.States.{machine, state_of, IsHub}
use Rattle.hub_engine.specs.Calls.{Appended, AppendedUnlessEnded, Unchanged, ChoosesDuty}
use Rattle.hub_engine.specs.declared.work.Next.TheVariants.{Took}
use Rattle.grape_hub.specs.Notes.{is_stopped_by_disk}
use Rattle.grape_hub.specs.Theorems.{IsCalm, CalmAfterOther, KeptsFollowSeals}
use Rattle.grape_hub.specs.declared.lane_record.LaneRecord.{LaneRecord}
use Rattle.grape_hub.specs.LanedHub.{LanedHub, IsLanedHub, no_record, lane_at, is_out_at, after_answer, lanes_after_answer}
use Rattle.lane_loop.specs.Turns.{StopsForMemory}
use Rattle.legal_journal.proofs.Choosing.{lane_choices_are_exact}
use Rattle.hub_engine.proofs.Hubs.{ends_with}
use Rattle.coordinator.specs.Turns.{HasNoDiskStop, HasNoDuty, ServesLane, ServesOrStops, GoesOn}
use Rattle.coordinator.specs.Keeping.{cuts_in, IsGoing, TurnLeaves, TurnKeeps}
use Rattle.coordinator.specs.declared.keeper.Keeper.{Keeper}
use Rattle.coordinator.proofs.Causes.{duty_no_disk, disk_after, disk_after_lane}
use Rattle.coordinator.proofs.Going.{HasStayed, stayed_unchanged, stayed_after, stayed_on, duty_is_plain, lane_is_plain, going_stays, over_stays, keeps_stays, comes_stays}

-- ---- a journal that goes on or ends

longer : (old new : HubValues) (e : Event) → Appended old e new → length old.journal.events < length new.journal.events
longer old new e more =
    let n = ap (λ (es : List Event). length es) more.2 in
    let m = length-append old.journal.events (e ∷ []) in
    omega (arith, n, m)

calm_unchanged : (old new : HubValues) → Unchanged old new → IsCalm old → IsCalm new
calm_unchanged old new same calm =
    let Calm : Job → SnapshotParts → List Event → Type 0 = λ job start events. IsCalm (record { job = job; counters = new.counters; start = start; journal = record { events = events; spare = 0 } }) in
    subst (λ (job : Job). Calm job new.start new.journal.events) (sym same.0)
    (subst (λ (start : SnapshotParts). Calm old.job start new.journal.events) (sym same.3) (subst (λ (es : List Event). Calm old.job old.start es) (sym same.2) calm))

-- a duty is no Take
duty_no_take : (e : Event) → is_duty e ≡ true → is_take e ≡ false
duty_no_take (Take i k) h = absurd (false≢true h)
duty_no_take (Give i) h = refl
duty_no_take (Stretch i t) h = refl
duty_no_take (Hold i) h = refl
duty_no_take (Flag i) h = refl
duty_no_take Ask h = refl
duty_no_take (Ack i) h = refl
duty_no_take (Nack i) h = refl
duty_no_take (Begin e) h = refl
duty_no_take (Mark i) h = refl
duty_no_take (Seal e) h = refl
duty_no_take (Kept e) h = refl
duty_no_take End h = refl
duty_no_take (Stop c) h = refl

-- what a duty leaves that was done
pub record HasDone (old new : HubValues) : Type 0 where
  pub same : (new.job ≡ old.job) × (new.counters ≡ old.counters) × (new.start ≡ old.start)
  pub calm : IsCalm new
  pub stays : HasStayed old new
  pub disk : HasNoDiskStop new

pub duty_done : DutiesAreExact → CalmAfterOther → (old new : HubValues) (e : Event) → IsHub old → IsCalm old → ChoosesDuty old (Did e) new → IsHub new → HasDone old new
duty_done exact other old new e hub calm chosen hub-2 =
    let is = ((exact (machine old) (state_of old)).0 e chosen.0).1 in
    record {
      same = (chosen.2.0, chosen.2.1, chosen.2.3);
      calm = other old new e hub calm (duty_no_take e is) chosen.2 hub-2;
      stays = stayed_after old new e chosen.2 (duty_is_plain e is chosen.1);
      disk = disk_after old new e chosen.2 (duty_no_disk e is);
    }

-- ---- a Take

-- a journal hasn't ended after a Take, so that its Give is appended
pub given_after_take : (old taken given : HubValues) (i lane j : ℕ) → Appended old (Take i lane) taken → AppendedUnlessEnded taken (Give j) given → Appended taken (Give j) given
given_after_take old taken given i lane j more after =
    let going : has_ended (reverse taken.journal.events) ≡ false =
    ap (λ (es : List Event). has_ended (reverse es)) more.2 ∙ ap (λ (es : List Event). has_ended es) (reverse-append old.journal.events (Take i lane ∷ [])) in
    MatchBool-at_false _ _ going after

-- the lane has its Work out
pub took_is_out : (old new : LanedHub) (lane : ℕ) (work : Work) → IsLanedHub old → lane < old.hub.job.settings.lanes → new.lanes ≡ lanes_after_answer old lane (Took work) new.hub → is_out_at new lane ≡ true
took_is_out old new lane work stands inside same =
    let count = stands.1.count in
    ap (λ (rs : List LaneRecord). (slice_index_or rs lane no_record).out) same
    ∙ ap (λ (r : LaneRecord). r.out) (get_or-set_same old.lanes lane (after_answer 1 (length new.hub.journal.events) (lane_at old lane)) no_record (omega (arith, inside, count)))

-- ---- a Stop

-- what a Stop for want of memory leaves, whether the journal had ended or not
pub record HasGivenUp (old new : HubValues) : Type 0 where
  pub same : (new.job ≡ old.job) × (new.counters ≡ old.counters) × (new.start ≡ old.start)
  pub calm : IsCalm new

stopped_if : (had : Bool) → CalmAfterOther → (old new : HubValues) → IsHub old → IsCalm old → MatchBool had (new ≡ old) (Appended old (Stop Memory) new) → IsHub new → HasGivenUp old new
stopped_if true other old new hub calm same hub-2 = record {
  same = (ap (λ (h : HubValues). h.job) same, ap (λ (h : HubValues). h.counters) same, ap (λ (h : HubValues). h.start) same);
  calm = subst (λ (h : HubValues). IsCalm h) (sym same) calm;
}
stopped_if false other old new hub calm more hub-2 = record { same = (more.0, more.1, more.3); calm = other old new (Stop Memory) hub calm refl more hub-2 }

-- a Stop where a call for which there was no memory has changed nothing
pub stopped_unchanged : CalmAfterOther → (old between new : HubValues) → IsCalm old → Unchanged old between → IsHub between → AppendedUnlessEnded between (Stop Memory) new → IsHub new → HasGivenUp old new
stopped_unchanged other old between new calm same hub after hub-2 =
    let s = stopped_if (has_ended (reverse between.journal.events)) other between new hub (calm_unchanged old between same calm) after hub-2 in
    record { same = (s.same.0 ∙ same.0, s.same.1 ∙ same.1, s.same.2 ∙ same.3); calm = s.calm }

stopped_stays : (had : Bool) (old new : HubValues) → HasNoDiskStop old → MatchBool had (Unchanged old new) (Appended old (Stop Memory) new) → HasStayed old new × HasNoDiskStop new
stopped_stays true old new disk same = (stayed_unchanged old new same, ap (λ (es : List Event). is_stopped_by_disk (reverse es)) same.2 ∙ disk)
stopped_stays false old new disk more = (stayed_after old new (Stop Memory) more refl, disk_after old new (Stop Memory) more refl)

pub memory_stays : (old new : HubValues) → HasNoDiskStop old → StopsForMemory old new → HasStayed old new × HasNoDiskStop new
memory_stays old new disk stops = stopped_stays (has_ended (reverse old.journal.events)) old new disk stops

-- ---- what lane 0 leaves

lane_stays : (old new : HubValues) → ServesLane old new → HasStayed old new × HasNoDiskStop new
lane_stays old new (inl did) =
    let choice = did.1.0 in
    let is = ((lane_choices_are_exact (machine old) (state_of old) 0 choice.0 choice.1).0 did.0 choice.2).1 in
    (stayed_after old new did.0 did.1.2 (lane_is_plain 0 did.0 is), disk_after_lane old new 0 did.0 did.1)
lane_stays old new (inr (work, taken, chosen, given)) =
    let took = stayed_after old taken (Take work.worker 0) chosen.1 refl in
    let gave = stayed_after taken new (Give work.worker) given refl in
    (stayed_on old taken new took gave, disk_after taken new (Give work.worker) given refl)

-- where there was no duty, the lane's turn is the whole turn
pub goes_on_after : (goes_on : Bool) (old new : HubValues) → HasNoDuty old → ServesOrStops goes_on old new → GoesOn goes_on old new
goes_on_after true old new free served = inr (inr (free, served))
goes_on_after false old new free stops = inl stops

pub served_leaves : KeptsFollowSeals → (goes_on : Bool) (old new : HubValues) (keeper : Keeper) (faults : ℕ) → IsHub new → IsGoing old keeper → ServesOrStops goes_on old new → TurnLeaves goes_on new keeper faults faults
served_leaves follow true old new keeper faults hub going served = let s = lane_stays old new served in (going_stays old new keeper s.0 s.1 going, refl)
served_leaves follow false old new keeper faults hub going stops = let s = memory_stays old new going.disk stops in (over_stays follow old new keeper faults hub s.0 s.1 going, inr refl)

module _ {D : Type 0} (content : D → Option (List ℕ)) (images : D → ℕ → List ℕ → Type 0) (moment : D → ℕ) where
  pub served_keeps : (goes_on : Bool) (old new : HubValues) (keeper : Keeper) (disk : D) → HasNoDiskStop old → ServesOrStops goes_on old new → TurnKeeps content images moment goes_on old keeper disk new keeper disk
  served_keeps true old new keeper disk none served = keeps_stays content images moment old.job (cuts_in old) (cuts_in new) keeper disk (lane_stays old new served).0.cuts
  served_keeps false old new keeper disk none stops = comes_stays content images moment old.job (cuts_in old) (cuts_in new) keeper disk (memory_stays old new none stops).0.cuts

-- ---- what a turn's words say of the journal

-- a turn that goes on adds an event
pub longer_after : (old new : HubValues) → GoesOn true old new → length old.journal.events < length new.journal.events
longer_after old new (inl did) = longer old new did.0 did.1.2
longer_after old new (inr (inl (epoch, sealed, chosen, kept))) =
    let s = longer old sealed (Seal epoch) chosen.1 in
    let k = longer sealed new (Kept epoch) kept in
    omega (arith, s, k)
longer_after old new (inr (inr (free, inl did))) = longer old new did.0 did.1.2
longer_after old new (inr (inr (free, inr (work, taken, chosen, given)))) =
    let t = longer old taken (Take work.worker 0) chosen.1 in
    let g = longer taken new (Give work.worker) given in
    omega (arith, t, g)

-- a turn that doesn't go on leaves a journal that has ended
pub ended_after : (old new : HubValues) → GoesOn false old new → has_ended (reverse new.journal.events) ≡ true
ended_after old new (inl stops) = by_end (has_ended (reverse old.journal.events)) refl stops
  where
    by_end : (had : Bool) → has_ended (reverse old.journal.events) ≡ had → MatchBool had (Unchanged old new) (Appended old (Stop Memory) new) → has_ended (reverse new.journal.events) ≡ true
    by_end true is same = ap (λ (es : List Event). has_ended (reverse es)) same.2 ∙ is
    by_end false is more = ends_with old new (Stop Memory) more
ended_after old new (inr (epoch, cause, sealed, chosen, stopped)) = ends_with sealed new (Stop cause) stopped

-- a journal that had ended, where nothing was appended
pub ended_stays : (old new : HubValues) → new ≡ old → has_ended (reverse old.journal.events) ≡ true → StopsForMemory old new
ended_stays old new same had =
    let unchanged : Unchanged old new = (ap (λ (h : HubValues). h.job) same, ap (λ (h : HubValues). h.counters) same, ap (λ (h : HubValues). h.journal.events) same, ap (λ (h : HubValues). h.start) same) in
    subst (λ (b : Bool). MatchBool b (Unchanged old new) (Appended old (Stop Memory) new)) (sym had) unchanged
