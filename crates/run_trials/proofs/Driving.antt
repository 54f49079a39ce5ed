-- A hub that two lanes drive.
use Rattle.std.proofs.Common.{◌≡◌, ◌≢◌, ℕ, inl, inr, Bool, true, false, not, ◌&&◌, refl, sym, ◌∙◌, ap, subst, arith, List, [], ◌∷◌, length, map, reverse, Option, Some, None}
use Rattle.std.specs.List.{AllZip, Contains}
use Rattle.std.proofs.lemmas.Bool.{cases_Bool, eq-eqb, false≢true, MatchBool-at_false}
use Rattle.std.proofs.lemmas.List.FromFn.{length-range_with_len, get_or-range_with_len}
use Rattle.std.proofs.lemmas.List.Folds.{list_any_at}
use Rattle.std.proofs.lemmas.List.{reverse-append, length-map}
use Rattle.std.proofs.lemmas.List.Elements.{Contains-push}
use Rattle.std.proofs.lemmas.Option.{same_Some}
use Rattle.graph_core.specs.declared.job.Job.{Job}
use Rattle.graph_core.specs.Fragments.{Piece, numbers_below, places}
use Rattle.grape_event.specs.declared.event.Event.{Event}
use Rattle.grape_event.specs.declared.event.Event.TheVariants.{Take, Give, Stretch, Hold, Flag, Ask, Ack, Nack, Begin, Mark, Seal, Kept, End, Stop}
use Rattle.grape_event.specs.Events.{is_take}
use Rattle.pie_core.specs.Solutions.{starts_of}
use Rattle.token_cut.specs.Parts.{PartValues, SnapshotParts}
use Rattle.token_cut.specs.Shapes.{size_of, sizes_of}
use Rattle.base_machine.specs.Machine.{System, system_of}
use Rattle.base_machine.specs.Fitness.{IsInForm, IsPartInForm}
use Rattle.base_machine.proofs.Giving.{below-length}
use Rattle.legal_journal.specs.Past.{has_ended, lane_of}
use Rattle.legal_journal.specs.Choices.{is_of_lane, is_duty}
use Rattle.legal_journal.specs.Legal.{State, worker_count, is_lane, is_out_with, has_work_out}
use Rattle.legal_journal.proofs.Choosing.{duties_are_exact, lane_choices_are_exact}
use Rattle.hub_engine.specs.declared.work.Work.{Work}
use Rattle.hub_engine.specs.HubValues.{HubValues}
use Rattle.hub_engine.specs.States.{machine, state_of, sealed_epoch, IsHub, IsOut}
use Rattle.hub_engine.specs.declared.work.Duty.TheVariants as duty
use Rattle.hub_engine.specs.declared.work.Next.TheVariants.{Took, Did}
use Rattle.hub_engine.specs.Desks.{has_taken}
use Rattle.hub_engine.specs.Calls.{Appended, AppendedUnlessEnded, Unchanged, Begins, Chooses, ChoosesDuty, WritesSealed, IsWork, IsReady, HasSizesOf, is_seal}
use Rattle.hub_engine.proofs.Hubs.{state_grown, zipped_length, past_of}
use Rattle.grape_hub.specs.LanedHub.{LanedHub, IsLanedHub, is_out_at}
use Rattle.grape_hub.proofs.Calm.{calm_is_free, calm_at_beginning}
use Rattle.grape_hub.proofs.Cuts.{sealed_may_be_resumed}
use Rattle.grape_hub.proofs.Staying.{works_stay, lanes_stay}
use Rattle.run_trials.specs.Lanes.{HasOut, LaneKeeps, GoesAlong, IsDriven}

-- ---- events that no lane's Work and no seal hears of

-- no Take, Give, Seal or Kept
abbrev pub is_plain : Event → Bool
is_plain (Take i k) = false
is_plain (Give i) = false
is_plain (Seal e) = false
is_plain (Kept e) = false
is_plain _ = true

pub lane_plain : (lane : ℕ) (e : Event) → is_of_lane lane e ≡ true → is_take e ≡ false → is_plain e ≡ true
lane_plain lane (Take i k) h t = absurd (false≢true (sym t))
lane_plain lane (Give i) h t = absurd (false≢true h)
lane_plain lane (Stretch i n) h t = refl
lane_plain lane (Hold i) h t = refl
lane_plain lane (Flag i) h t = refl
lane_plain lane Ask h t = refl
lane_plain lane (Ack i) h t = refl
lane_plain lane (Nack i) h t = refl
lane_plain lane (Begin e) h t = refl
lane_plain lane (Mark i) h t = refl
lane_plain lane (Seal e) h t = absurd (false≢true h)
lane_plain lane (Kept e) h t = absurd (false≢true h)
lane_plain lane End h t = refl
lane_plain lane (Stop c) h t = refl

pub duty_plain : (e : Event) → is_duty e ≡ true → is_seal e ≡ false → is_plain e ≡ true
duty_plain (Take i k) h t = absurd (false≢true h)
duty_plain (Give i) h t = absurd (false≢true h)
duty_plain (Stretch i n) h t = refl
duty_plain (Hold i) h t = refl
duty_plain (Flag i) h t = refl
duty_plain Ask h t = refl
duty_plain (Ack i) h t = refl
duty_plain (Nack i) h t = refl
duty_plain (Begin e) h t = refl
duty_plain (Mark i) h t = refl
duty_plain (Seal e) h t = absurd (false≢true (sym t))
duty_plain (Kept e) h t = absurd (false≢true h)
duty_plain End h t = refl
duty_plain (Stop c) h t = refl

plain_sealed : (e : Event) (past : List Event) → is_plain e ≡ true → sealed_epoch (e ∷ past) ≡ sealed_epoch past
plain_sealed (Take i k) past h = absurd (false≢true h)
plain_sealed (Give i) past h = absurd (false≢true h)
plain_sealed (Stretch i n) past h = refl
plain_sealed (Hold i) past h = refl
plain_sealed (Flag i) past h = refl
plain_sealed Ask past h = refl
plain_sealed (Ack i) past h = refl
plain_sealed (Nack i) past h = refl
plain_sealed (Begin e) past h = refl
plain_sealed (Mark i) past h = refl
plain_sealed (Seal e) past h = absurd (false≢true h)
plain_sealed (Kept e) past h = absurd (false≢true h)
plain_sealed End past h = refl
plain_sealed (Stop c) past h = refl

abbrev is_give : Event → Bool
is_give (Give i) = true
is_give _ = false

-- who takes, and by which lane
abbrev lane_in : Event → ℕ
lane_in (Take i k) = k
lane_in _ = 0

abbrev giver_in : Event → ℕ
giver_in (Give i) = i
giver_in _ = 0

-- ---- what lanes keep

-- a lane keeps what it has where the event is no Take of its own, and not the Give of its Work
keeps : (old new : HubValues) (lane : ℕ) (e : Event) → Appended old e new → IsHub new → ((i : ℕ) → e ≡ Take i lane → ⊥) →
    ((work : Work) → IsOut (state_of old) lane work.worker work.place → e ≡ Give work.worker → ⊥) → LaneKeeps lane old new
keeps old new lane e more hub no_take no_give None h = lanes_stay.0 old new lane e h no_take more
keeps old new lane e more hub no_take no_give (Some work) h =
    let k = works_stay old new lane h.0 work e h.1 h.2 more hub (no_give work h.1.out) in
    (h.0, k.0, k.1)

pub plain_keeps : (old new : HubValues) (e : Event) → Appended old e new → IsHub new → is_plain e ≡ true → (lane : ℕ) → LaneKeeps lane old new
plain_keeps old new e more hub plain lane =
    keeps old new lane e more hub (λ i q. false≢true (sym (ap (λ x. is_plain x) q) ∙ plain)) (λ work out q. false≢true (sym (ap (λ x. is_plain x) q) ∙ plain))

-- a Seal or a Kept
pub seal_keeps : (old new : HubValues) (epoch : ℕ) → Appended old (Seal epoch) new → IsHub new → (lane : ℕ) → LaneKeeps lane old new
seal_keeps old new epoch more hub lane =
    keeps old new lane (Seal epoch) more hub (λ i q. false≢true (ap (λ x. is_take x) q)) (λ work out q. false≢true (ap (λ x. is_give x) q))

pub kept_keeps : (old new : HubValues) (epoch : ℕ) → Appended old (Kept epoch) new → IsHub new → (lane : ℕ) → LaneKeeps lane old new
kept_keeps old new epoch more hub lane =
    keeps old new lane (Kept epoch) more hub (λ i q. false≢true (ap (λ x. is_take x) q)) (λ work out q. false≢true (ap (λ x. is_give x) q))

pub take_keeps : (old new : HubValues) (i lane : ℕ) → Appended old (Take i lane) new → IsHub new → (other : ℕ) → other ≢ lane → LaneKeeps other old new
take_keeps old new i lane more hub other differ =
    keeps old new other (Take i lane) more hub (λ j q. differ (sym (ap (λ x. lane_in x) q))) (λ work out q. false≢true (sym (ap (λ x. is_take x) q)))

-- the Give of a lane's Work
pub give_keeps : (old new : HubValues) (lane place i : ℕ) → IsOut (state_of old) lane i place → Appended old (Give i) new → IsHub new → (other : ℕ) → other ≢ lane → LaneKeeps other old new
give_keeps old new lane place i mine more hub other differ =
    keeps old new other (Give i) more hub (λ j q. false≢true (ap (λ x. is_take x) q))
    (λ work out q.
    let same : i ≡ work.worker = ap (λ x. giver_in x) q in
    differ (same_Some other lane (sym out.by_lane ∙ (ap (λ n. lane_of n (state_of old).past) (sym same) ∙ mine.by_lane))))

-- the same hub with another room
abbrev respared : HubValues → ℕ → HubValues
respared old spare = record { job = old.job; counters = old.counters; start = old.start; journal = record { events = old.journal.events; spare = spare } }

spared_keeps : (old : HubValues) (spare lane : ℕ) → LaneKeeps lane old (respared old spare)
spared_keeps old spare lane None h = h
spared_keeps old spare lane (Some work) h = (
  h.0,
  record { out = h.1.out; is_first = h.1.is_first; values = h.1.values; hand = h.1.hand; before = h.1.before; sizes = h.1.sizes },
  record { first = h.2.first; again = h.2.again },
)

spared_is : (old new : HubValues) → Unchanged old new → new ≡ respared old new.journal.spare
spared_is old new same = λ t. record { job = same.0 t; counters = same.1 t; start = same.3 t; journal = record { events = same.2 t; spare = new.journal.spare } }

pub unchanged_keeps : (old new : HubValues) → Unchanged old new → (lane : ℕ) → LaneKeeps lane old new
unchanged_keeps old new same lane out h = subst (λ (q : HubValues). HasOut q lane out) (sym (spared_is old new same)) (spared_keeps old new.journal.spare lane out h)

pub same_keeps : (old new : HubValues) → new ≡ old → (lane : ℕ) → LaneKeeps lane old new
same_keeps old new same lane out h = subst (λ (q : HubValues). HasOut q lane out) (sym same) h

-- ---- what is sealed

past_grown : (old new : HubValues) (e : Event) → Appended old e new → (state_of new).past ≡ e ∷ (state_of old).past
past_grown old new e more = ap (λ (s : State). s.past) (state_grown old new e more)

pub sealed_after : (old new : HubValues) (e : Event) → Appended old e new → sealed_epoch (state_of new).past ≡ sealed_epoch (e ∷ (state_of old).past)
sealed_after old new e more = ap (λ (past : List Event). sealed_epoch past) (past_grown old new e more)

along : (old new : HubValues) (e : Event) → Appended old e new → sealed_epoch (e ∷ (state_of old).past) ≡ sealed_epoch (state_of old).past → GoesAlong old new
along old new e more same = record { job = more.0; counters = more.1; start = more.3; sealed = λ none. sealed_after old new e more ∙ (same ∙ none) }

pub plain_along : (old new : HubValues) (e : Event) → Appended old e new → is_plain e ≡ true → GoesAlong old new
plain_along old new e more plain = along old new e more (plain_sealed e (state_of old).past plain)

pub take_along : (old new : HubValues) (i lane : ℕ) → Appended old (Take i lane) new → GoesAlong old new
take_along old new i lane more = along old new (Take i lane) more refl

pub give_along : (old new : HubValues) (i : ℕ) → Appended old (Give i) new → GoesAlong old new
give_along old new i more = along old new (Give i) more refl

pub unchanged_along : (old new : HubValues) → Unchanged old new → GoesAlong old new
unchanged_along old new same = record {
  job = same.0;
  counters = same.1;
  start = same.3;
  sealed = λ none. ap (λ (q : HubValues). sealed_epoch (state_of q).past) (spared_is old new same) ∙ none;
}

pub same_along : (old new : HubValues) → new ≡ old → GoesAlong old new
same_along old new same = record {
  job = ap (λ (h : HubValues). h.job) same;
  counters = ap (λ (h : HubValues). h.counters) same;
  start = ap (λ (h : HubValues). h.start) same;
  sealed = λ none. ap (λ (q : HubValues). sealed_epoch (state_of q).past) same ∙ none;
}

-- a Seal whose Kept follows
pub kept_along : (old sealed new : HubValues) (epoch : ℕ) → Appended old (Seal epoch) sealed → Appended sealed (Kept epoch) new → GoesAlong old new
kept_along old sealed new epoch more kept = record {
  job = kept.0 ∙ more.0;
  counters = kept.1 ∙ more.1;
  start = kept.3 ∙ more.3;
  sealed = λ none. sealed_after sealed new (Kept epoch) kept;
}

-- the Kept is appended, since the journal hasn't ended after a Seal
pub kept_after_seal : (old sealed new : HubValues) (epoch : ℕ) → Appended old (Seal epoch) sealed → AppendedUnlessEnded sealed (Kept epoch) new → Appended sealed (Kept epoch) new
kept_after_seal old sealed new epoch more after =
    MatchBool-at_false _ _ (ap (λ (es : List Event). has_ended (reverse es)) more.2 ∙ ap (λ (es : List Event). has_ended es) (reverse-append old.journal.events (Seal epoch ∷ []))) after

-- ---- sizes

part_sizes : (sys : System) (piece : Piece) (part : PartValues) → IsPartInForm sys piece part → size_of part ≡ (length (places piece), length piece.mirrors)
part_sizes sys piece part h =
    let values = below-length sys.equations.order part.values (starts_of sys.equations (places piece)) h.values ∙ length-map (places piece) sys.equations.start in
    let mail = zipped_length _ part.mail (starts_of sys.equations piece.mirrors) h.mail ∙ length-map piece.mirrors sys.equations.start in
    λ t. (values t, mail t)

sizes_of_parts : (sys : System) (pieces : List Piece) (parts : List PartValues) → AllZip (IsPartInForm sys) pieces parts → sizes_of parts ≡ map (λ piece. (length (places piece), length piece.mirrors)) pieces
sizes_of_parts sys [] [] h = refl
sizes_of_parts sys [] (part ∷ parts) h = absurd h
sizes_of_parts sys (piece ∷ pieces) [] h = absurd h
sizes_of_parts sys (piece ∷ pieces) (part ∷ parts) h = λ t. part_sizes sys piece part h.0 t ∷ sizes_of_parts sys pieces parts h.1 t

-- a snapshot in the form has the sizes of the job's
pub form_sizes : (h : HubValues) (snapshot : SnapshotParts) → IsInForm (machine h) snapshot → HasSizesOf h snapshot
form_sizes h snapshot form asked = sizes_of_parts (machine h) (machine h).pieces snapshot.parts form.parts

pub form_stays : (old new : HubValues) (snapshot : SnapshotParts) → new.job ≡ old.job → IsInForm (machine old) snapshot → IsInForm (machine new) snapshot
form_stays old new snapshot same form = subst (λ (job : Job). IsInForm (system_of job) snapshot) (sym same) form

-- ---- a duty

-- what a step of the coordinator leaves
pub record IsDutyDone (old new : HubValues) (snapshot : SnapshotParts) : Type 0 where
  pub along : GoesAlong old new
  pub lanes : (lane : ℕ) → LaneKeeps lane old new
  pub into : IsInForm (machine new) snapshot

written_stays : (old new : HubValues) (before after : SnapshotParts) → new.job ≡ old.job → after ≡ before → IsInForm (machine old) before → IsInForm (machine new) after
written_stays old new before after job same form = form_stays old new after job (subst (λ (x : SnapshotParts). IsInForm (machine old) x) (sym same) form)

pub duty_did : (old new : HubValues) (e : Event) (before after : SnapshotParts) → ChoosesDuty old (duty.Did e) new → after ≡ before → IsHub new → IsInForm (machine old) before → IsDutyDone old new after
duty_did old new e before after chosen same hub form =
    let plain = duty_plain e ((duties_are_exact (machine old) (state_of old)).0 e chosen.0).1 chosen.1 in
    record { along = plain_along old new e chosen.2 plain; lanes = plain_keeps old new e chosen.2 hub plain; into = written_stays old new before after chosen.2.0 same form }

pub duty_none : (old new : HubValues) (before after : SnapshotParts) → new ≡ old → after ≡ before → IsInForm (machine old) before → IsDutyDone old new after
duty_none old new before after is same form =
    record { along = same_along old new is; lanes = same_keeps old new is; into = written_stays old new before after (ap (λ (h : HubValues). h.job) is) same form }

pub duty_failed : (old new : HubValues) (before after : SnapshotParts) → Unchanged old new → after ≡ before → IsInForm (machine old) before → IsDutyDone old new after
duty_failed old new before after is same form =
    record { along = unchanged_along old new is; lanes = unchanged_keeps old new is; into = written_stays old new before after is.0 same form }

pub duty_sealed : (old sealed new : HubValues) (epoch : ℕ) (before after : SnapshotParts) → ChoosesDuty old (duty.Sealed epoch) sealed → WritesSealed (duty.Sealed epoch) sealed before after → IsHub sealed →
    AppendedUnlessEnded sealed (Kept epoch) new → IsHub new → IsDutyDone old new after
duty_sealed old sealed new epoch before after chosen written hub unless hub-2 =
    let kept = kept_after_seal old sealed new epoch chosen.1 unless in
    let here = subst (λ es. Contains es (Seal epoch)) (sym chosen.1.2) (Contains-push old.journal.events (Seal epoch)) in
    record {
      along = kept_along old sealed new epoch chosen.1 kept;
      lanes = λ lane out h. kept_keeps sealed new epoch kept hub-2 lane out (seal_keeps old sealed epoch chosen.1 hub lane out h);
      into = form_stays sealed new after kept.0 (sealed_may_be_resumed sealed epoch after hub here written).0;
    }

pub may_keep : (old sealed : HubValues) (epoch : ℕ) → ChoosesDuty old (duty.Sealed epoch) sealed → sealed_epoch (state_of sealed).past ≡ Some epoch
may_keep old sealed epoch chosen = sealed_after old sealed (Seal epoch) chosen.1

-- ---- a lane

pub record IsLaneDone (old new : HubValues) (lane : ℕ) (has : Option Work) : Type 0 where
  pub along : GoesAlong old new
  pub out : HasOut new lane has
  pub lanes : (other : ℕ) → other ≢ lane → LaneKeeps other old new

pub lane_took : (old new : HubValues) (lane : ℕ) (work : Work) → Chooses old lane (Took work) new → IsReady new work → IsHub new → IsLaneDone old new lane (Some work)
lane_took old new lane work chosen ready hub =
    record { along = take_along old new work.worker lane chosen.1; out = (not (has_taken work.worker (state_of old).past), chosen.2, ready); lanes = take_keeps old new work.worker lane chosen.1 hub }

pub lane_did : (old new : HubValues) (lane : ℕ) (e : Event) → Chooses old lane (Did e) new → IsHub new → has_work_out (state_of old) lane ≡ false → IsLaneDone old new lane None
lane_did old new lane e chosen hub free =
    let choice = chosen.0 in
    let plain = lane_plain lane e ((lane_choices_are_exact (machine old) (state_of old) lane choice.0 choice.1).0 e choice.2).1 chosen.1 in
    let keep = plain_keeps old new e chosen.2 hub plain in
    record { along = plain_along old new e chosen.2 plain; out = keep lane None free; lanes = λ other differ. keep other }

pub lane_none : (old new : HubValues) (lane : ℕ) → new ≡ old → has_work_out (state_of old) lane ≡ false → IsLaneDone old new lane None
lane_none old new lane is free = record { along = same_along old new is; out = same_keeps old new is lane None free; lanes = λ other differ. same_keeps old new is other }

pub lane_failed : (old new : HubValues) (lane : ℕ) → Unchanged old new → has_work_out (state_of old) lane ≡ false → IsLaneDone old new lane None
lane_failed old new lane is free = record { along = unchanged_along old new is; out = unchanged_keeps old new is lane None free; lanes = λ other differ. unchanged_keeps old new is other }

-- the journal hadn't ended, so that the Give is appended
pub lane_gave : (old new : HubValues) (lane : ℕ) (work : Work) (worker : ℕ) → IsHub old → HasOut old lane (Some work) → has_ended (reverse old.journal.events) ≡ false → worker ≡ work.worker → AppendedUnlessEnded old (Give worker) new → IsHub new → IsLaneDone old new lane None
lane_gave old new lane work worker hub out going same after hub-2 =
    let more = subst (λ i. Appended old (Give i) new) same (MatchBool-at_false _ _ going after) in
    record {
      along = give_along old new work.worker more;
      out = lanes_stay.1 old new lane out.0 work hub out.1 more;
      lanes = give_keeps old new lane work.place work.worker out.1.out more hub-2;
    }

-- ---- both lanes

pub driven_on : (old new : LanedHub) (first second : Option Work) (before after : SnapshotParts) → IsDriven old first second before → GoesAlong old.hub new.hub → IsLanedHub new → ((lane : ℕ) → LaneKeeps lane old.hub new.hub) →
    IsInForm (machine new.hub) after → IsDriven new first second after
driven_on old new first second before after d along hub lanes form = record { hub = hub; first = lanes 0 first d.first; second = lanes 1 second d.second; sealed = along.sealed d.sealed; into = form }

pub driven_first : (old new : LanedHub) (first second out : Option Work) (into : SnapshotParts) → IsDriven old first second into → GoesAlong old.hub new.hub → IsLanedHub new → HasOut new.hub 0 out →
    ((other : ℕ) → other ≢ 0 → LaneKeeps other old.hub new.hub) → IsDriven new out second into
driven_first old new first second out into d along hub has lanes =
    record { hub = hub; first = has; second = lanes 1 (λ e. omega (arith, e)) second d.second; sealed = along.sealed d.sealed; into = form_stays old.hub new.hub into along.job d.into }

pub driven_second : (old new : LanedHub) (first second out : Option Work) (into : SnapshotParts) → IsDriven old first second into → GoesAlong old.hub new.hub → IsLanedHub new → HasOut new.hub 1 out →
    ((other : ℕ) → other ≢ 1 → LaneKeeps other old.hub new.hub) → IsDriven new first out into
driven_second old new first second out into d along hub has lanes =
    record { hub = hub; first = lanes 0 (λ e. omega (arith, e)) first d.first; second = has; sealed = along.sealed d.sealed; into = form_stays old.hub new.hub into along.job d.into }

-- ---- the hub's records

-- a lane that is free by the journal is free by its record
pub free_by_record : (x : LanedHub) (lane : ℕ) → IsLanedHub x → has_work_out (state_of x.hub) lane ≡ false → is_out_at x lane ≡ false
free_by_record x lane stands free =
    elim (cases_Bool (is_out_at x lane)) [ inl out ↦ absurd (false≢true (sym free ∙ (stands.1.out lane out).0)) | inr f ↦ f ]

-- before the journal's end a lane has out by its record what it has out by the journal
pub out_by_record : (x : LanedHub) (lane : ℕ) (fresh : Bool) (work : Work) → IsLanedHub x → has_ended (reverse x.hub.journal.events) ≡ false → IsWork x.hub lane fresh work → is_out_at x lane ≡ true
out_by_record x lane fresh work stands going w =
    let s = state_of x.hub in
    let i = work.worker in
    let out = w.out in
    let mine : is_out_with s lane i ≡ true =
    ap (λ b. b && is_lane lane (lane_of i s.past)) out.running ∙ (ap (λ (o : Option ℕ). is_lane lane o) out.by_lane ∙ eq-eqb lane lane refl) in
    let long = length-range_with_len 0 (worker_count s) in
    let here = get_or-range_with_len 0 (worker_count s) i 0 out.in_range in
    stands.1.all going lane (list_any_at (is_out_with s lane) (numbers_below (worker_count s)) i 0 (omega (arith, out.in_range, long)) (subst (λ n. is_out_with s lane n ≡ true) (sym (here ∙ omega arith)) mine))

-- ---- the beginning

-- at its start a hub is driven by nobody, and a copy of the start is in the form
pub driven_begins : (x : LanedHub) (job : Job) (counters : ℕ) (start into : SnapshotParts) → IsLanedHub x → Begins job counters start x.hub → into ≡ start → IsInForm (system_of job) start → IsDriven x None None into
driven_begins x job counters start into stands begins same form =
    let h = x.hub in
    let calm = calm_at_beginning h stands.0 begins.2 in
    record {
      hub = stands;
      first = calm_is_free h 0 calm;
      second = calm_is_free h 1 calm;
      sealed = ap (λ (past : List Event). sealed_epoch past) (past_of h ∙ ap (λ (es : List Event). reverse es) begins.2);
      into = subst (λ (q : Job). IsInForm (system_of q) into) (sym begins.0) (subst (λ (s : SnapshotParts). IsInForm (system_of job) s) (sym same) form);
    }
