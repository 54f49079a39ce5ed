-- Why a run was stopped, and what the coordinator's note says of it.
use Rattle.std.proofs.Common.{◌≡◌, ℕ, ◌<◌, Bool, true, false, ◌==◌, nat_lt, if◌then◌else◌, refl, sym, ◌∙◌, ap, arith, List, [], ◌∷◌, ◌++◌, Option, reverse}
use Rattle.std.proofs.lemmas.Bool.{false≢true, eqb-true, false_from_ne_true}
use Rattle.std.proofs.lemmas.List.{reverse-append}
use Rattle.graph_core.specs.declared.job.Job.{Job}
use Rattle.grape_event.specs.declared.event.Event.{Event}
use Rattle.grape_event.specs.declared.event.Event.TheVariants.{Stop}
use Rattle.grape_event.specs.declared.event.StopCause.{StopCause}
use Rattle.grape_event.specs.declared.event.StopCause.TheVariants.{Disk, Memory}
use Rattle.token_cut.specs.Parts.{SnapshotParts}
use Rattle.base_machine.specs.Machine.{system_of}
use Rattle.legal_journal.specs.Choices.{is_of_lane, is_duty}
use Rattle.legal_journal.specs.Legal.{start_state}
use Rattle.legal_journal.specs.Cuts.{sealed_snapshots}
use Rattle.legal_journal.proofs.Choosing.{lane_choices_are_exact}
use Rattle.hub_engine.specs.HubValues.{HubValues}
use Rattle.hub_engine.specs.States.{machine, state_of, sealed_epoch}
use Rattle.hub_engine.specs.declared.work.Next.TheVariants.{Did}
use Rattle.hub_engine.specs.Calls.{Appended, Unchanged, Chooses, is_seal}
use Rattle.hub_engine.proofs.Hubs.{past_of}
use Rattle.grape_hub.specs.LanedHub.{LanedHub}
use Rattle.grape_hub.specs.Notes.{is_stopped_by_disk, numbers_of_cuts, lane_part, coordinator_part, own_in, note_of}
use Rattle.grape_hub.proofs.NoteLaws.{own_is}
use Rattle.grape_hub.proofs.NotesStay.{sealed_more}
use Rattle.grape_hub.proofs.CutNotes.{not_below, coordinator_own}
use Rattle.coordinator.specs.Runs.{EndsBy}
use Rattle.coordinator.specs.Turns.{HasNoDiskStop}

-- ---- the last event

-- a Stop for want of the disk
abbrev pub is_disk : Event → Bool
is_disk (Stop Disk) = true
is_disk _ = false

stopped_first : (e : Event) (past : List Event) → is_stopped_by_disk (e ∷ past) ≡ is_disk e
stopped_first (Stop Disk) past = refl
stopped_first (Stop Memory) past = refl
stopped_first _ past = refl

pub stopped_last : (journal : List Event) (e : Event) → is_stopped_by_disk (reverse (journal ++ e ∷ [])) ≡ is_disk e
stopped_last journal e = ap (λ (es : List Event). is_stopped_by_disk es) (reverse-append journal (e ∷ [])) ∙ stopped_first e (reverse journal)

-- after another event the disk didn't stop the run
pub disk_after : (old new : HubValues) (e : Event) → Appended old e new → is_disk e ≡ false → HasNoDiskStop new
disk_after old new e more other = ap (λ (es : List Event). is_stopped_by_disk (reverse es)) more.2 ∙ (stopped_last old.journal.events e ∙ other)

pub duty_no_disk : (e : Event) → is_duty e ≡ true → is_disk e ≡ false
duty_no_disk (Stop cause) h = absurd (false≢true h)
duty_no_disk _ h = refl

lane_no_disk : (lane : ℕ) (e : Event) → is_of_lane lane e ≡ true → is_disk e ≡ false
lane_no_disk lane (Stop cause) h = absurd (false≢true h)
lane_no_disk lane _ h = refl

-- after what a lane chose
pub disk_after_lane : (old new : HubValues) (lane : ℕ) (e : Event) → Chooses old lane (Did e) new → HasNoDiskStop new
disk_after_lane old new lane e chosen =
    let choice = chosen.0 in
    disk_after old new e chosen.2 (lane_no_disk lane e ((lane_choices_are_exact (machine old) (state_of old) lane choice.0 choice.1).0 e choice.2).1)

-- the cause of a Stop that is not for want of the disk
pub memory_is_cause : (cause : StopCause) (journal : List Event) → EndsBy (Stop cause) journal → is_stopped_by_disk (reverse journal) ≡ false → cause ≡ Memory
memory_is_cause cause journal ends disk = other cause (sym (stopped_last ends.0 (Stop cause)) ∙ (ap (λ (es : List Event). is_stopped_by_disk (reverse es)) (sym ends.1) ∙ disk))
  where
    other : (cause : StopCause) → is_disk (Stop cause) ≡ false → cause ≡ Memory
    other Disk h = absurd (false≢true (sym h))
    other Memory h = refl

-- ---- the coordinator's note

-- behind the ground of a number past the coordinator's nothing stands
pub past_is_empty : (x : LanedHub) (k : ℕ) → x.hub.job.settings.lanes < k → own_in (note_of x k) ≡ []
past_is_empty x k l =
    let n = x.hub.job.settings.lanes in
    own_is x k ∙ neither (nat_lt k n) (k == n) (lane_part x k) (coordinator_part x.hub) (not_below k n (λ m. omega (arith, l, m))) (false_from_ne_true (k == n) (λ t. let e = eqb-true k n t in omega (arith, l, e)))
  where
    neither : (c d : Bool) (xs ys : List ℕ) → c ≡ false → d ≡ false → (if c then xs else if d then ys else []) ≡ []
    neither true d xs ys e f = absurd (false≢true (sym e))
    neither false true xs ys e f = absurd (false≢true (sym f))
    neither false false xs ys e f = refl

-- nothing was sealed, and the disk didn't stop the run
abbrev IsStill : HubValues → Type 0
IsStill h = (sealed_snapshots (machine h) h.start h.journal.events ≡ []) × HasNoDiskStop h

no_cuts : (unkept : Option ℕ) (stopped : Bool) (cuts : List SnapshotParts) → numbers_of_cuts unkept stopped cuts ≡ [] → (cuts ≡ []) × (stopped ≡ false)
no_cuts unkept false [] h = (refl, refl)
no_cuts unkept true [] h = absurd (cc)
no_cuts unkept stopped (s ∷ cuts) h = absurd (cc)

still_from : (h : HubValues) → coordinator_part h ≡ [] → IsStill h
still_from h part =
    let none = no_cuts (sealed_epoch (state_of h).past) (is_stopped_by_disk (state_of h).past) (sealed_snapshots (machine h) h.start h.journal.events) part in
    (none.0, sym (ap (λ (es : List Event). is_stopped_by_disk es) (past_of h)) ∙ none.1)

part_from : (h : HubValues) → IsStill h → coordinator_part h ≡ []
part_from h still =
    let unkept = sealed_epoch (state_of h).past in
    ap (λ (cuts : List SnapshotParts). numbers_of_cuts unkept (is_stopped_by_disk (state_of h).past) cuts) still.0
    ∙ ap (λ (stopped : Bool). numbers_of_cuts unkept stopped []) (ap (λ (es : List Event). is_stopped_by_disk es) (past_of h) ∙ still.1)

still_after : (old new : HubValues) (e : Event) → Appended old e new → is_seal e ≡ false → is_disk e ≡ false → IsStill old → IsStill new
still_after old new e more seal other still = (
  (λ t. sealed_snapshots (system_of (more.0 t)) (more.3 t) (more.2 t)) ∙ (sealed_more (machine old) e seal old.journal.events (start_state old.start) ∙ still.0),
  disk_after old new e more other,
)

still_unchanged : (old new : HubValues) → Unchanged old new → IsStill old → IsStill new
still_unchanged old new same still = (
  (λ t. sealed_snapshots (system_of (same.0 t)) (same.3 t) (same.2 t)) ∙ still.0,
  ap (λ (es : List Event). is_stopped_by_disk (reverse es)) same.2 ∙ still.1,
)

-- ---- what a duty leaves of it

-- the coordinator's note is that of a run in which nothing was sealed and that the disk didn't stop
abbrev pub IsStillIn : LanedHub → ℕ → Type 0
IsStillIn x lanes = own_in (note_of x lanes) ≡ []

pub tells_still : (x : LanedHub) (lanes : ℕ) → x.hub.job.settings.lanes ≡ lanes → IsStillIn x lanes → HasNoDiskStop x.hub
tells_still x lanes same still = (still_from x.hub (sym (coordinator_own x) ∙ (ap (λ (n : ℕ). own_in (note_of x n)) same ∙ still))).1

stays_still : (old new : LanedHub) → new.hub.job ≡ old.hub.job → (IsStill old.hub → IsStill new.hub) → IsStillIn old old.hub.job.settings.lanes → IsStillIn new old.hub.job.settings.lanes
stays_still old new same keeps still =
    ap (λ (job : Job). own_in (note_of new job.settings.lanes)) (sym same) ∙ (coordinator_own new ∙ part_from new.hub (keeps (still_from old.hub (sym (coordinator_own old) ∙ still))))

pub still_after_event : (old new : LanedHub) (e : Event) → Appended old.hub e new.hub → is_seal e ≡ false → is_disk e ≡ false → IsStillIn old old.hub.job.settings.lanes → IsStillIn new old.hub.job.settings.lanes
still_after_event old new e more seal other = stays_still old new more.0 (still_after old.hub new.hub e more seal other)

pub still_where_unchanged : (old new : LanedHub) → Unchanged old.hub new.hub → IsStillIn old old.hub.job.settings.lanes → IsStillIn new old.hub.job.settings.lanes
still_where_unchanged old new same = stays_still old new same.0 (still_unchanged old.hub new.hub same)

pub still_where_same : (old new : LanedHub) → new.hub ≡ old.hub → IsStillIn old old.hub.job.settings.lanes → IsStillIn new old.hub.job.settings.lanes
still_where_same old new same = still_where_unchanged old new (ap (λ (h : HubValues). h.job) same, ap (λ (h : HubValues). h.counters) same, ap (λ (h : HubValues). h.journal.events) same, ap (λ (h : HubValues). h.start) same)
