-- What the coordinator's turns come to, and what it leaves.
use Rattle.std.proofs.Common.{◌≡◌, ℕ, ◌%◌, ◌⊎◌, inl, inr, Bool, true, false, IsTrue, refl, sym, ◌∙◌, ap, subst, arith, List, [], ◌∷◌, ◌++◌, Option, Some, None}
use Rattle.std.proofs.lemmas.Bool.{false≢true}
use Rattle.std.proofs.lemmas.List.{map-append}
use Rattle.grape_port.specs.Ports.{Rose}
use Rattle.graph_core.specs.declared.job.Job.{Job}
use Rattle.grape_event.specs.declared.event.Event.{Event}
use Rattle.grape_event.specs.declared.event.StopCause.{StopCause}
use Rattle.grape_event.specs.declared.event.StopCause.TheVariants.{Disk, Memory}
use Rattle.token_cut.specs.Parts.{SnapshotParts}
use Rattle.token_cut.specs.Shapes.{Starts}
use Rattle.recovery.specs.Crashes.{kept_epochs, epochs_of, Survives, MayKeep, KeepsOne, MayHaveKept}
use Rattle.recovery.specs.declared.kept_at.KeptAt.{KeptAt}
use Rattle.hub_engine.specs.declared.work.Duty.{Duty}
use Rattle.hub_engine.specs.declared.work.Duty.TheVariants as duty
use Rattle.grape_hub.specs.LanedHub.{LanedHub, IsLanedHub}
use Rattle.grape_hub.specs.Notes.{ground_of, ground_in, note_of}
use Rattle.grape_hub.specs.Theorems.{GroundsTell, NotesBegin, CutsTell}
use Rattle.lane_loop.specs.declared.served.Served.{Served}
use Rattle.lane_loop.specs.declared.served.Served.TheVariants.{Did, Idle, Ended}
use Rattle.coordinator.specs.Shapes.{shape_of}
use Rattle.coordinator.specs.Runs.{HasUsed, HasLast}
use Rattle.coordinator.specs.Keeping.{cuts_in, digest_in, last_in, HasSizesFor, HasKept, KeepsOn, ComesTo}
use Rattle.coordinator.specs.Leaving.{IsWaiting, IsNoteOf, LeavesNote, LeavesHub}
use Rattle.coordinator.specs.Visits.{AnswersAsLeft, IsSealedAfter, DutyNotes, MayPut, LeavesFrom, TurnLeavesNote}
use Rattle.coordinator.specs.declared.keeper.Keeper.{Keeper}
use Rattle.coordinator.specs.declared.leave.Leave.{Leave}
use Rattle.coordinator.specs.declared.leave.Leave.TheVariants.{AllKept, Waits}
use Rattle.coordinator.proofs.Visits.{told}
use Rattle.coordinator.proofs.Sizing.{slot_sizes}
use Rattle.coordinator.proofs.Going.{has_last, kept_more, sealed_keeps, sealed_comes}

module _ {D : Type 0} (content : D → Option (List ℕ)) (images : D → ℕ → List ℕ → Type 0) (moment faults : D → ℕ) (honest : D → Bool) (job : Job) (shape : Starts) (same : shape ≡ shape_of job) (keeper kept : Keeper) (old new : D) where
  -- after a put and its Kept
  pub leaves_kept : (start : SnapshotParts) (cuts : List SnapshotParts) (epoch : ℕ) (before note : List ℕ) → MayPut job start cuts epoch before keeper → IsNoteOf job start None false (cuts ++ keeper.into ∷ []) note →
      kept_epochs kept.kept.items ≡ kept_epochs keeper.kept.items ++ keeper.into.epoch ∷ [] → HasLast keeper.into.epoch kept.store → kept.into ≡ keeper.into → faults new ≡ faults old →
      (IsTrue (honest old) → KeepsOne content images moment shape (digest_in keeper.store) keeper.into (last_in keeper.store) keeper.kept.items kept.kept.items old new) →
      LeavesFrom content images moment faults honest job keeper old start cuts AllKept note kept new
  leaves_kept start cuts epoch before note may is noted last into no_fault one =
      let named = may.sealed.named in
      let next = may.sealed.next in (
        cuts ++ keeper.into ∷ [],
        is,
        kept_more job start cuts keeper kept keeper.into may.kept (omega (arith, named, next)) (slot_sizes job (epoch % 2) keeper.into may.sealed.form) noted last into,
        no_fault,
        λ h. sealed_keeps content images moment job shape cuts (cuts ++ keeper.into ∷ []) keeper kept keeper.into old new same refl (has_last keeper.into.epoch kept.store last).1 (one h),
      )

  -- the epochs that were noted after a put, and where there was none
  noted_put : (cuts : List SnapshotParts) (more : List KeptAt) → kept_epochs keeper.kept.items ≡ epochs_of cuts → kept_epochs more ≡ kept_epochs keeper.kept.items ++ keeper.into.epoch ∷ [] → kept_epochs more ≡ epochs_of (cuts ++ keeper.into ∷ [])
  noted_put cuts more all one = one ∙ (ap (λ (es : List ℕ). es ++ keeper.into.epoch ∷ []) all ∙ sym (map-append (λ (x : SnapshotParts). x.epoch) cuts (keeper.into ∷ [])))

  not_noted_put : (cuts : List SnapshotParts) (epoch : ℕ) (more : List KeptAt) → kept_epochs keeper.kept.items ≡ epochs_of cuts → keeper.into.epoch ≡ epoch → more ≡ keeper.kept.items → kept_epochs more ++ epoch ∷ [] ≡ epochs_of (cuts ++ keeper.into ∷ [])
  not_noted_put cuts epoch more all named is =
      ap (λ (ks : List KeptAt). kept_epochs ks ++ epoch ∷ []) is
      ∙ (ap (λ (es : List ℕ). es ++ epoch ∷ []) all ∙ (ap (λ (n : ℕ). epochs_of cuts ++ n ∷ []) (sym named) ∙ sym (map-append (λ (x : SnapshotParts). x.epoch) cuts (keeper.into ∷ []))))

  -- after a put whose Kept came too late
  pub leaves_late : (start : SnapshotParts) (cuts : List SnapshotParts) (epoch : ℕ) (before note : List ℕ) → MayPut job start cuts epoch before keeper → IsNoteOf job start (Some epoch) false (cuts ++ keeper.into ∷ []) note →
      kept_epochs kept.kept.items ≡ kept_epochs keeper.kept.items ++ keeper.into.epoch ∷ [] → HasLast keeper.into.epoch kept.store →
      (IsTrue (honest old) → KeepsOne content images moment shape (digest_in keeper.store) keeper.into (last_in keeper.store) keeper.kept.items kept.kept.items old new) →
      LeavesFrom content images moment faults honest job keeper old start cuts (Waits Memory) note kept new
  leaves_late start cuts epoch before note may is noted last one = (
    cuts ++ keeper.into ∷ [],
    epoch,
    false,
    is,
    record { noted = inl (noted_put cuts kept.kept.items may.kept.noted noted); by_disk = λ e. absurd (cc e); was_stopped = λ e. absurd (false≢true e) },
    λ h file began m.
        (sealed_keeps content images moment job shape cuts (cuts ++ keeper.into ∷ []) keeper kept keeper.into old new same refl (has_last keeper.into.epoch kept.store last).1 (one h) file began m).survives,
  )

  -- after a put that failed, and a Stop
  pub leaves_failed : (start : SnapshotParts) (cuts : List SnapshotParts) (epoch : ℕ) (cause : StopCause) (before note : List ℕ) → MayPut job start cuts epoch before keeper →
      ((stopped : Bool) × IsNoteOf job start (Some epoch) stopped (cuts ++ keeper.into ∷ []) note × (stopped ≡ true → cause ≡ Disk)) → kept.kept.items ≡ keeper.kept.items → (cause ≡ Disk → Rose (faults old) (faults new)) →
      (IsTrue (honest old) → MayHaveKept content images moment shape (digest_in keeper.store) keeper.into (last_in keeper.store) keeper.kept.items kept.kept.items old new) →
      LeavesFrom content images moment faults honest job keeper old start cuts (Waits cause) note kept new
  leaves_failed start cuts epoch cause before note may is not_noted rose may_have = (
    cuts ++ keeper.into ∷ [],
    epoch,
    is.0,
    is.1,
    record {
      noted = inr (not_noted_put cuts epoch kept.kept.items may.kept.noted may.sealed.named not_noted);
      by_disk = rose;
      was_stopped = λ e. rose (is.2 e);
    },
    λ h. sealed_comes content images moment job shape cuts (cuts ++ keeper.into ∷ []) keeper kept.kept.items keeper.into old new same refl (may_have h),
  )

-- ---- a duty

-- a keeper into which a snapshot was written
abbrev pub with_into : Keeper → SnapshotParts → Keeper
with_into keeper into = record { store = keeper.store; kept = keeper.kept; into = into }

-- what a Seal leaves may be put
pub may_put : (job : Job) (r : Duty) (epoch : ℕ) (start : SnapshotParts) (cuts : List SnapshotParts) (note : List ℕ) (keeper : Keeper) (into : SnapshotParts) → r ≡ duty.Sealed epoch → HasKept job start cuts keeper →
    DutyNotes r job start cuts keeper.into note into → MayPut job start cuts epoch note (with_into keeper into)
may_put job r epoch start cuts note keeper into is has notes =
    let sealed : IsSealedAfter job start cuts epoch note into = subst (λ (q : Duty). DutyNotes q job start cuts keeper.into note into) is notes in
    record { sealed = sealed; kept = record { noted = has.noted; store = has.store; sizes = slot_sizes job (epoch % 2) into sealed.form } }

-- what another duty leaves
abbrev pub IsNoSeal : Duty → Type 0
IsNoSeal r = (epoch : ℕ) → r ≡ duty.Sealed epoch → ⊥

noted_by_other : (job : Job) (r : Duty) (start : SnapshotParts) (cuts : List SnapshotParts) (before : SnapshotParts) (note : List ℕ) (into : SnapshotParts) → IsNoSeal r → DutyNotes r job start cuts before note into → IsNoteOf job start None false cuts note × (into ≡ before)
noted_by_other job (duty.Sealed epoch) start cuts before note into other notes = absurd (other epoch refl)
noted_by_other job (duty.Did e) start cuts before note into other notes = notes
noted_by_other job duty.Nothing start cuts before note into other notes = notes
noted_by_other job duty.Ended start cuts before note into other notes = notes
noted_by_other job duty.NoMemory start cuts before note into other notes = notes

-- which duty is no Seal
abbrev is_sealed : Duty → Bool
is_sealed (duty.Sealed epoch) = true
is_sealed _ = false

no_seal : (r s : Duty) → r ≡ s → is_sealed s ≡ false → IsNoSeal r
no_seal r s is other epoch h = absurd (false≢true (sym other ∙ ap is_sealed (sym is ∙ h)))

pub did_is_none : (r : Duty) (e : Event) → r ≡ duty.Did e → IsNoSeal r
did_is_none r e is = no_seal r (duty.Did e) is refl

pub others_are_none : (r : Duty) → (r ≡ duty.Nothing) ⊎ ((r ≡ duty.Ended) ⊎ (r ≡ duty.NoMemory)) → IsNoSeal r
others_are_none r (inl is) = no_seal r duty.Nothing is refl
others_are_none r (inr (inl is)) = no_seal r duty.Ended is refl
others_are_none r (inr (inr is)) = no_seal r duty.NoMemory is refl

module _ {D : Type 0} (content : D → Option (List ℕ)) (images : D → ℕ → List ℕ → Type 0) (moment faults : D → ℕ) (honest : D → Bool) (job : Job) (keeper : Keeper) (old : D) where
  pub leaves_other : (r : Duty) (start : SnapshotParts) (cuts : List SnapshotParts) (note : List ℕ) (into : SnapshotParts) → IsNoSeal r → HasKept job start cuts keeper → DutyNotes r job start cuts keeper.into note into →
      LeavesFrom content images moment faults honest job keeper old start cuts AllKept note (with_into keeper into) old
  leaves_other r start cuts note into other has notes =
      let is = noted_by_other job r start cuts keeper.into note into other notes in (
        cuts,
        is.0,
        record { noted = has.noted; store = has.store; sizes = subst (λ (x : SnapshotParts). HasSizesFor job x) (sym is.1) has.sizes },
        refl,
        λ h file began m. m,
      )

-- ---- turn after turn

-- where lane 0 hasn't ended nothing waits
pub going_is_kept : (leave : Leave) (served goes_on : Served) (answer : ℕ) → AnswersAsLeft leave served answer → served ≡ goes_on → (goes_on ≡ Ended → ⊥) → leave ≡ AllKept
going_is_kept AllKept served goes_on answer as_left is other = refl
going_is_kept (Waits cause) served goes_on answer as_left is other = absurd (other (sym is ∙ as_left.0))

abbrev has_ended : Served → Bool
has_ended Ended = true
has_ended _ = false

pub did_goes_on : Did ≡ Ended → ⊥
did_goes_on h = false≢true (ap has_ended h)

pub idle_goes_on : Idle ≡ Ended → ⊥
idle_goes_on h = false≢true (ap has_ended h)

module _ {D : Type 0} (content : D → Option (List ℕ)) (images : D → ℕ → List ℕ → Type 0) (moment faults : D → ℕ) (honest : D → Bool) (job : Job) (keeper : Keeper) (old : D) where
  -- one turn more
  pub leaves_on : (mid : Keeper) (between : D) (leave : Leave) (before note : List ℕ) (kept : Keeper) (new : D) → LeavesNote content images moment faults honest job keeper old AllKept before mid between →
      digest_in mid.store ≡ digest_in keeper.store → honest between ≡ honest old → TurnLeavesNote content images moment faults honest job mid between leave before note kept new →
      LeavesNote content images moment faults honest job keeper old leave note kept new
  leaves_on mid between AllKept before note kept new so digest stays turn =
      let t = turn so.0 so.1 so.2 so.3 in
      let goes : IsTrue (honest old) → KeepsOn content images moment job so.1 mid between t.0 kept new = λ h. t.4 (stays ∙ h) in (
        so.0,
        t.0,
        t.1,
        t.2,
        t.3 ∙ so.4,
        λ h file began m.
            subst (λ (ns : List ℕ). MayKeep content images moment (shape_of job) ns t.0 kept.kept.items file (last_in kept.store) began new) digest
            (goes h file began (subst (λ (ns : List ℕ). MayKeep content images moment (shape_of job) ns so.1 mid.kept.items file (last_in mid.store) began between) (sym digest) (so.5 h file began m))),
      )
  leaves_on mid between (Waits cause) before note kept new so digest stays turn =
      let t = turn so.0 so.1 so.2 so.3 in
      let comes : IsTrue (honest old) → ComesTo content images moment job so.1 mid between t.0 kept.kept.items new = λ h. t.5 (stays ∙ h) in (
        so.0,
        t.0,
        t.1,
        t.2,
        t.3,
        subst (λ (n : ℕ). IsWaiting cause t.1 t.2 t.0 kept.kept.items n (faults new)) so.4 t.4,
        λ h file began m.
            subst (λ (ns : List ℕ). Survives images moment (shape_of job) ns t.0 kept.kept.items file began new) digest
            (comes h file began (subst (λ (ns : List ℕ). MayKeep content images moment (shape_of job) ns so.1 mid.kept.items file (last_in mid.store) began between) (sym digest) (so.5 h file began m))),
      )

-- what was used of the disk, turn after turn
pub used_on : {D : Type 0} (moment : D → ℕ) (honest : D → Bool) (job : Job) (old mid new : D) → HasUsed moment honest job old mid → HasUsed moment honest job mid new → HasUsed moment honest job old new
used_on moment honest job old mid new a b =
    let p = a.later in
    let q = b.later in
    record { unused = λ none. b.unused none ∙ a.unused none; later = omega (arith, p, q); honest_stays = b.honest_stays ∙ a.honest_stays }

pub used_same : {D : Type 0} (moment : D → ℕ) (honest : D → Bool) (job : Job) (disk : D) → HasUsed moment honest job disk disk
used_same moment honest job disk = record { unused = λ none. refl; later = omega arith; honest_stays = refl }

-- ---- a lock that is closed

module _ (grounds : GroundsTell) (begin : NotesBegin) (x : LanedHub) (job : Job) (note : List ℕ) (here : note_of x job.settings.lanes ≡ note) where
  -- its hub began with the start of the ground
  pub start_told : (start : SnapshotParts) → ground_in note ≡ ground_of job start → x.hub.start ≡ start
  start_told start ground = (grounds x.hub.job job x.hub.start start (sym (begin x job.settings.lanes) ∙ (ap (λ (ns : List ℕ). ground_in ns) here ∙ ground))).1

  module _ {D : Type 0} (content : D → Option (List ℕ)) (images : D → ℕ → List ℕ → Type 0) (moment faults : D → ℕ) (honest : D → Bool) (keeper : Keeper) (old : D) (tells : CutsTell) (stands : IsLanedHub x) (kept : Keeper) (new : D) where
    pub leaves_hub : (leave : Leave) → LeavesNote content images moment faults honest job keeper old leave note kept new → LeavesHub content images moment faults honest job keeper old leave x.hub kept new
    leaves_hub AllKept so =
        let t = told begin tells x stands job so.0 None false so.1 grounds (subst (λ (ns : List ℕ). IsNoteOf job so.0 None false so.1 ns) (sym here) so.2) in
        let words = t.2 in (
          record {
            disk = words.disk;
            unsealed = words.waits;
            kept = subst (λ (j : Job). HasKept j x.hub.start (cuts_in x.hub) kept) (sym t.0)
                (subst (λ (s : SnapshotParts). HasKept job s (cuts_in x.hub) kept) (sym t.1) (subst (λ (cs : List SnapshotParts). HasKept job so.0 cs kept) (sym words.sealed) so.3));
          },
          so.4,
          λ h. subst (λ (cs : List SnapshotParts). KeepsOn content images moment job [] keeper old cs kept new) (sym words.sealed) (so.5 h),
        )
    leaves_hub (Waits cause) so =
        let t = told begin tells x stands job so.0 (Some so.2) so.3 so.1 grounds (subst (λ (ns : List ℕ). IsNoteOf job so.0 (Some so.2) so.3 so.1 ns) (sym here) so.4) in
        let words = t.2 in (
          so.2,
          words.waits,
          subst (λ (b : Bool). IsWaiting cause so.2 b (cuts_in x.hub) kept.kept.items (faults old) (faults new)) (sym words.disk)
              (subst (λ (cs : List SnapshotParts). IsWaiting cause so.2 so.3 cs kept.kept.items (faults old) (faults new)) (sym words.sealed) so.5),
          λ h. subst (λ (cs : List SnapshotParts). ComesTo content images moment job [] keeper old cs kept.kept.items new) (sym words.sealed) (so.6 h),
        )
