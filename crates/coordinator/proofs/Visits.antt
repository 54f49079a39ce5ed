-- What a visit of the hub leaves of the coordinator's note.
use Rattle.std.proofs.Common.{◌≡◌, ℕ, ◌+◌, ◌≤◌, Bool, true, false, not, MatchBool, refl, sym, ◌∙◌, ap, subst, arith, ◌%◌, List, [], ◌∷◌, ◌++◌, length, reverse, Option, Some, None}
use Rattle.std.proofs.lemmas.Bool.{false≢true}
use Rattle.graph_core.specs.declared.job.Job.{Job}
use Rattle.grape_event.specs.declared.event.Event.{Event}
use Rattle.grape_event.specs.declared.event.Event.TheVariants.{Seal, Kept, Stop}
use Rattle.grape_event.specs.declared.event.StopCause.{StopCause}
use Rattle.grape_event.specs.declared.event.StopCause.TheVariants.{Disk, Memory}
use Rattle.token_cut.specs.Parts.{SnapshotParts}
use Rattle.token_cut.specs.Form.{IsInSlotForm}
use Rattle.legal_journal.specs.Past.{has_ended}
use Rattle.legal_journal.specs.Choices.{is_duty}
use Rattle.legal_journal.specs.Legal.{State}
use Rattle.legal_journal.proofs.Choosing.{duties_are_exact}
use Rattle.hub_engine.specs.HubValues.{HubValues}
use Rattle.hub_engine.specs.States.{machine, state_of, sealed_epoch}
use Rattle.hub_engine.specs.declared.work.Duty.{Duty}
use Rattle.hub_engine.specs.declared.work.Duty.TheVariants as duty
use Rattle.hub_engine.specs.Calls.{Appended, Unchanged, ChoosesDuty, WritesSealed, is_seal}
use Rattle.hub_engine.proofs.Hubs.{past_of, state_grown}
use Rattle.grape_hub.specs.LanedHub.{LanedHub, IsLanedHub}
use Rattle.grape_hub.specs.Notes.{is_stopped_by_disk, numbers_of_cuts, ground_of, ground_in, own_in, note_of}
use Rattle.grape_hub.specs.Theorems.{GroundsTell, NotesBegin, CutsTell, WaitsAmong, NothingIsSealed}
use Rattle.coordinator.specs.Shapes.{shape_of}
use Rattle.coordinator.specs.Keeping.{cuts_in, SealsMayBeKept}
use Rattle.coordinator.specs.Leaving.{IsNoteOf}
use Rattle.coordinator.specs.Visits.{ChoosesDutyOrStops, DutyNotes, DutyLeaves, KeptLeaves, StopLeaves}
use Rattle.coordinator.proofs.Causes.{disk_after, duty_no_disk}
use Rattle.coordinator.proofs.Going.{cuts_after, stayed_unchanged}

-- the epoch that waits, whether the disk stopped the run, and what was sealed
pub record HasWords (h : HubValues) (waiting : Option ℕ) (stopped : Bool) (cuts : List SnapshotParts) : Type 0 where
  pub waits : sealed_epoch (state_of h).past ≡ waiting
  pub disk : is_stopped_by_disk (reverse h.journal.events) ≡ stopped
  pub sealed : cuts_in h ≡ cuts

-- ---- one event more

waits_after : (old new : HubValues) (e : Event) → Appended old e new → sealed_epoch (state_of new).past ≡ sealed_epoch (e ∷ (state_of old).past)
waits_after old new e more = ap (λ (s : State). sealed_epoch s.past) (state_grown old new e more)

words_unchanged : (old new : HubValues) (w : Option ℕ) (s : Bool) (cuts : List SnapshotParts) → Unchanged old new → HasWords old w s cuts → HasWords new w s cuts
words_unchanged old new w s cuts same words =
    let stays = stayed_unchanged old new same in
    record { waits = stays.waits ∙ words.waits; disk = ap (λ (es : List Event). is_stopped_by_disk (reverse es)) same.2 ∙ words.disk; sealed = stays.cuts ∙ words.sealed }

pub words_same : (old new : HubValues) (w : Option ℕ) (s : Bool) (cuts : List SnapshotParts) → new ≡ old → HasWords old w s cuts → HasWords new w s cuts
words_same old new w s cuts same words = subst (λ (h : HubValues). HasWords h w s cuts) (sym same) words

-- a Stop leaves what waits and what was sealed
pub words_stopped : (old new : HubValues) (cause : StopCause) (w : Option ℕ) (s : Bool) (cuts : List SnapshotParts) → Appended old (Stop cause) new → HasWords old w s cuts → HasWords new w (is_stopped_by_disk (reverse new.journal.events)) cuts
words_stopped old new cause w s cuts more words =
    record { waits = waits_after old new (Stop cause) more ∙ words.waits; disk = refl; sealed = cuts_after old new (Stop cause) more refl ∙ words.sealed }

-- only a Stop for want of the disk is one
pub disk_is_cause : (old new : HubValues) (cause : StopCause) → Appended old (Stop cause) new → is_stopped_by_disk (reverse new.journal.events) ≡ true → cause ≡ Disk
disk_is_cause old new Disk more h = refl
disk_is_cause old new Memory more h = absurd (false≢true (sym (disk_after old new (Stop Memory) more refl) ∙ h))

duty_waits : (e : Event) → is_duty e ≡ true → is_seal e ≡ false → (past : List Event) → sealed_epoch (e ∷ past) ≡ sealed_epoch past
duty_waits (Seal epoch) d s past = absurd (false≢true (sym s))
duty_waits (Kept epoch) d s past = absurd (false≢true d)
duty_waits _ d s past = refl

words_of_memory : (had : Bool) (old new : HubValues) (w : Option ℕ) (cuts : List SnapshotParts) → MatchBool had (Unchanged old new) (Appended old (Stop Memory) new) → HasWords old w false cuts → HasWords new w false cuts
words_of_memory true old new w cuts same words = words_unchanged old new w false cuts same words
words_of_memory false old new w cuts more words =
    record { waits = waits_after old new (Stop Memory) more ∙ words.waits; disk = disk_after old new (Stop Memory) more refl; sealed = cuts_after old new (Stop Memory) more refl ∙ words.sealed }

same_of_memory : (had : Bool) (old new : HubValues) → MatchBool had (Unchanged old new) (Appended old (Stop Memory) new) → (new.job ≡ old.job) × (new.start ≡ old.start)
same_of_memory true old new same = (same.0, same.3)
same_of_memory false old new more = (more.0, more.3)

-- ---- the note

module _ (begin : NotesBegin) (tells : CutsTell) (x : LanedHub) (stands : IsLanedHub x) (job : Job) (start : SnapshotParts) (w : Option ℕ) (s : Bool) (cuts : List SnapshotParts) where
  -- what a hub tells whose note this is
  pub told : GroundsTell → IsNoteOf job start w s cuts (note_of x job.settings.lanes) → (x.hub.job ≡ job) × (x.hub.start ≡ start) × HasWords x.hub w s cuts
  told grounds is =
      let n = job.settings.lanes in
      let same = grounds x.hub.job job x.hub.start start (sym (begin x n) ∙ is.ground) in
      let own = ap (λ (j : Job). own_in (note_of x j.settings.lanes)) same.0 ∙ is.own in
      let words = (tells x stands).2 w s cuts is.among own in
      (same.0, same.1, record { waits = words.0; disk = sym (ap (λ (es : List Event). is_stopped_by_disk es) (past_of x.hub)) ∙ words.1; sealed = words.2 })

  -- and the note that it has
  pub noted : x.hub.job ≡ job → x.hub.start ≡ start → HasWords x.hub w s cuts → IsNoteOf job start w s cuts (note_of x job.settings.lanes)
  noted same from words =
      let law = tells x stands in
      let disk = ap (λ (es : List Event). is_stopped_by_disk es) (past_of x.hub) ∙ words.disk in
      record {
        ground = begin x job.settings.lanes ∙ (λ t. ground_of (same t) (from t));
        among = subst (λ (o : Option ℕ). WaitsAmong o cuts) words.waits (subst (λ (cs : List SnapshotParts). WaitsAmong (sealed_epoch (state_of x.hub).past) cs) words.sealed law.0);
        own = ap (λ (j : Job). own_in (note_of x j.settings.lanes)) (sym same) ∙ (law.1 ∙ (λ t. numbers_of_cuts (words.waits t) (disk t) (words.sealed t)));
      }

-- ---- a duty

pub or_stops : (old new : HubValues) (r : Duty) → (r ≡ duty.NoMemory → ⊥) → ChoosesDuty old r new → ChoosesDutyOrStops old r new
or_stops old new (duty.Did e) other c = c
or_stops old new (duty.Sealed epoch) other c = c
or_stops old new duty.Nothing other c = c
or_stops old new duty.Ended other c = c
or_stops old new duty.NoMemory other c = absurd (other refl)

asks : (n : ℕ) → (n ≡ 0 → ⊥) → 1 ≤ n
asks n other = omega (arith, other)

module _ (grounds : GroundsTell) (begin : NotesBegin) (tells : CutsTell) (may : SealsMayBeKept) (nothing : NothingIsSealed) (old new : LanedHub) (stood : IsLanedHub old) (stands : IsLanedHub new) (job : Job) (before after : SnapshotParts) where
  keeps : (start : SnapshotParts) (cuts : List SnapshotParts) → (new.hub.job ≡ old.hub.job) × (new.hub.start ≡ old.hub.start) → (HasWords old.hub None false cuts → HasWords new.hub None false cuts) →
      IsNoteOf job start None false cuts (note_of old job.settings.lanes) → IsNoteOf job start None false cuts (note_of new job.settings.lanes)
  keeps start cuts same step is =
      let t = told begin tells old stood job start None false cuts grounds is in
      noted begin tells new stands job start None false cuts (same.0 ∙ t.0) (same.1 ∙ t.1) (step t.2)

  pub duty_leaves : (r : Duty) → ChoosesDutyOrStops old.hub r new.hub → WritesSealed r new.hub before after → DutyLeaves job r (note_of old job.settings.lanes) before (note_of new job.settings.lanes) after
  duty_leaves (duty.Did e) c w start cuts is =
      let is_one = ((duties_are_exact (machine old.hub) (state_of old.hub)).0 e c.0).1 in (
        keeps start cuts (c.2.0, c.2.3) (λ words. record {
          waits = waits_after old.hub new.hub e c.2 ∙ (duty_waits e is_one c.1 (state_of old.hub).past ∙ words.waits);
          disk = disk_after old.hub new.hub e c.2 (duty_no_disk e is_one);
          sealed = cuts_after old.hub new.hub e c.2 c.1 ∙ words.sealed;
        }) is,
        w,
      )
  duty_leaves (duty.Sealed epoch) c w start cuts is =
      let t = told begin tells old stood job start None false cuts grounds is in
      let next = may old.hub new.hub epoch after stood.0 c.1 stands.0 w in
      let sealed : cuts_in new.hub ≡ cuts ++ after ∷ [] = next.cuts ∙ ap (λ (cs : List SnapshotParts). cs ++ after ∷ []) t.2.sealed in record {
        asked = asks job.settings.snapshot (λ z. (nothing old.hub stood.0 (ap (λ (j : Job). j.settings.snapshot) t.0 ∙ z)).1 epoch c.0);
        named = next.named;
        next = next.next ∙ (λ i. (t.1 i).epoch + length (t.2.sealed i) + 1);
        form = subst (λ (j : Job). IsInSlotForm (shape_of j) (epoch % 2) after) t.0 next.form;
        noted = noted begin tells new stands job start (Some epoch) false (cuts ++ after ∷ []) (c.1.0 ∙ t.0) (c.1.3 ∙ t.1) (record { waits = next.waits; disk = disk_after old.hub new.hub (Seal epoch) c.1 refl; sealed = sealed });
      }
  duty_leaves duty.Nothing c w start cuts is =
      (keeps start cuts (ap (λ (h : HubValues). h.job) c.1, ap (λ (h : HubValues). h.start) c.1) (λ words. words_same old.hub new.hub None false cuts c.1 words) is, w)
  duty_leaves duty.Ended c w start cuts is =
      (keeps start cuts (ap (λ (h : HubValues). h.job) c.0, ap (λ (h : HubValues). h.start) c.0) (λ words. words_same old.hub new.hub None false cuts c.0 words) is, w)
  duty_leaves duty.NoMemory c w start cuts is =
      let had = has_ended (reverse old.hub.journal.events) in
      (keeps start cuts (same_of_memory had old.hub new.hub c) (λ words. words_of_memory had old.hub new.hub None cuts c words) is, w)

pub duty_ground : (job : Job) (r : Duty) (start : SnapshotParts) (cuts : List SnapshotParts) (before : SnapshotParts) (note : List ℕ) (after : SnapshotParts) → DutyNotes r job start cuts before note after → ground_in note ≡ ground_of job start
duty_ground job (duty.Sealed epoch) start cuts before note after is = is.noted.ground
duty_ground job (duty.Did e) start cuts before note after is = is.0.ground
duty_ground job duty.Nothing start cuts before note after is = is.0.ground
duty_ground job duty.Ended start cuts before note after is = is.0.ground
duty_ground job duty.NoMemory start cuts before note after is = is.0.ground

-- ---- after a put

module _ (grounds : GroundsTell) (begin : NotesBegin) (tells : CutsTell) (old new : LanedHub) (stood : IsLanedHub old) (stands : IsLanedHub new) (job : Job) where
  pub kept_leaves : (epoch : ℕ) (had : Bool) → MatchBool had (new.hub ≡ old.hub) (Appended old.hub (Kept epoch) new.hub) → KeptLeaves job (not had) epoch (note_of old job.settings.lanes) (note_of new job.settings.lanes)
  kept_leaves epoch true same start cuts is =
      let t = told begin tells old stood job start (Some epoch) false cuts grounds is in
      noted begin tells new stands job start (Some epoch) false cuts (ap (λ (h : HubValues). h.job) same ∙ t.0) (ap (λ (h : HubValues). h.start) same ∙ t.1) (words_same old.hub new.hub (Some epoch) false cuts same t.2)
  kept_leaves epoch false more start cuts is =
      let t = told begin tells old stood job start (Some epoch) false cuts grounds is in
      noted begin tells new stands job start None false cuts (more.0 ∙ t.0) (more.3 ∙ t.1) (record {
        waits = waits_after old.hub new.hub (Kept epoch) more;
        disk = disk_after old.hub new.hub (Kept epoch) more refl;
        sealed = cuts_after old.hub new.hub (Kept epoch) more refl ∙ t.2.sealed;
      })

  pub stop_leaves : (epoch : ℕ) (cause : StopCause) (had : Bool) → MatchBool had (new.hub ≡ old.hub) (Appended old.hub (Stop cause) new.hub) → StopLeaves job epoch cause (note_of old job.settings.lanes) (note_of new job.settings.lanes)
  stop_leaves epoch cause true same start cuts is =
      let t = told begin tells old stood job start (Some epoch) false cuts grounds is in (
        false,
        noted begin tells new stands job start (Some epoch) false cuts (ap (λ (h : HubValues). h.job) same ∙ t.0) (ap (λ (h : HubValues). h.start) same ∙ t.1) (words_same old.hub new.hub (Some epoch) false cuts same t.2),
        λ h. absurd (false≢true h),
      )
  stop_leaves epoch cause false more start cuts is =
      let t = told begin tells old stood job start (Some epoch) false cuts grounds is in (
        is_stopped_by_disk (reverse new.hub.journal.events),
        noted begin tells new stands job start (Some epoch) (is_stopped_by_disk (reverse new.hub.journal.events)) cuts (more.0 ∙ t.0) (more.3 ∙ t.1) (words_stopped old.hub new.hub cause (Some epoch) false cuts more t.2),
        disk_is_cause old.hub new.hub cause more,
      )
