-- What an event leaves of a run that keeps its snapshots.
use Rattle.std.proofs.Common.{◌≡◌, ℕ, zero, suc, ◌+◌, ◌≤◌, inl, inr, Bool, true, false, refl, sym, ◌∙◌, ap, subst, arith, List, [], ◌∷◌, ◌++◌, append-nil, length, Option, Some, None, reverse}
use Rattle.std.proofs.lemmas.Bool.{false≢true, MatchBool-at_false}
use Rattle.std.proofs.lemmas.List.{map-append, length-append, reverse-append}
use Rattle.grape_port.specs.Ports.{Rose}
use Rattle.graph_core.specs.declared.job.Job.{Job}
use Rattle.grape_event.specs.declared.event.Event.{Event}
use Rattle.grape_event.specs.declared.event.Event.TheVariants.{Seal, Kept, End, Stop}
use Rattle.grape_event.specs.Events.{is_last}
use Rattle.grape_event.specs.declared.event.StopCause.{StopCause}
use Rattle.grape_event.specs.declared.event.StopCause.TheVariants.{Disk, Memory}
use Rattle.token_cut.specs.Parts.{SnapshotParts}
use Rattle.token_cut.specs.Shapes.{Starts}
use Rattle.base_machine.specs.Machine.{system_of}
use Rattle.legal_journal.specs.Choices.{is_of_lane, is_duty, duty_choice}
use Rattle.legal_journal.specs.Legal.{State, start_state, state_at_end}
use Rattle.legal_journal.specs.Cuts.{sealed_snapshots, epochs_kept}
use Rattle.recovery.specs.Crashes.{epochs_of, kept_epochs, Survives, MayKeep, KeepsOne, MayHaveKept}
use Rattle.snapshot_store.specs.Stores.{StoreValue}
use Rattle.recovery.specs.declared.kept_at.KeptAt.{KeptAt}
use Rattle.hub_engine.specs.HubValues.{HubValues}
use Rattle.hub_engine.specs.States.{machine, state_of, sealed_epoch, IsHub}
use Rattle.hub_engine.specs.Calls.{Appended, AppendedUnlessEnded, Unchanged, is_seal}
use Rattle.hub_engine.proofs.Hubs.{state_grown, ends_with}
use Rattle.grape_hub.specs.Notes.{is_stopped_by_disk}
use Rattle.grape_hub.specs.Theorems.{waiting_in, KeptsFollowSeals, NothingIsSealed}
use Rattle.grape_hub.proofs.NotesStay.{sealed_more}
use Rattle.coordinator.specs.Shapes.{shape_of}
use Rattle.coordinator.specs.Runs.{EndsBy, HasLast, HasUsed}
use Rattle.coordinator.specs.Turns.{HasNoDiskStop}
use Rattle.coordinator.specs.Keeping.{cuts_in, digest_in, last_in, HasSizesFor, HasKept, HasNoted, IsSealedNext, IsGoing, IsOver, FailsOnlySo, KeepsOn, ComesTo}
use Rattle.coordinator.specs.declared.keeper.Keeper.{Keeper}
use Rattle.coordinator.proofs.Causes.{is_disk, stopped_last}

-- ---- events that seal nothing and keep nothing

abbrev pub is_plain : Event → Bool
is_plain (Seal e) = false
is_plain (Kept e) = false
is_plain _ = true

plain_seals : (e : Event) → is_plain e ≡ true → is_seal e ≡ false
plain_seals (Seal e) h = absurd (false≢true h)
plain_seals _ h = refl

plain_waits : (e : Event) (past : List Event) → is_plain e ≡ true → sealed_epoch (e ∷ past) ≡ sealed_epoch past
plain_waits (Seal e) past h = absurd (false≢true h)
plain_waits (Kept e) past h = absurd (false≢true h)
plain_waits _ past h = refl

pub duty_is_plain : (e : Event) → is_duty e ≡ true → is_seal e ≡ false → is_plain e ≡ true
duty_is_plain (Seal e) h p = absurd (false≢true (sym p))
duty_is_plain (Kept e) h p = absurd (false≢true h)
duty_is_plain _ h p = refl

pub lane_is_plain : (lane : ℕ) (e : Event) → is_of_lane lane e ≡ true → is_plain e ≡ true
lane_is_plain lane (Seal e) h = absurd (false≢true h)
lane_is_plain lane (Kept e) h = absurd (false≢true h)
lane_is_plain lane _ h = refl

-- ---- what stays

-- the job, the start, what was sealed and what waits
pub record HasStayed (old new : HubValues) : Type 0 where
  pub job : new.job ≡ old.job
  pub start : new.start ≡ old.start
  pub cuts : cuts_in new ≡ cuts_in old
  pub waits : sealed_epoch (state_of new).past ≡ sealed_epoch (state_of old).past

pub stayed_same : (old new : HubValues) → new ≡ old → HasStayed old new
stayed_same old new same = record {
  job = ap (λ (h : HubValues). h.job) same;
  start = ap (λ (h : HubValues). h.start) same;
  cuts = ap (λ (h : HubValues). cuts_in h) same;
  waits = ap (λ (h : HubValues). sealed_epoch (state_of h).past) same;
}

pub stayed_unchanged : (old new : HubValues) → Unchanged old new → HasStayed old new
stayed_unchanged old new same = record {
  job = same.0;
  start = same.3;
  cuts = λ t. sealed_snapshots (system_of (same.0 t)) (same.3 t) (same.2 t);
  waits = λ t. sealed_epoch (state_at_end (system_of (same.0 t)) (same.3 t) (same.2 t)).past;
}

-- an event that is no Seal seals nothing
pub cuts_after : (old new : HubValues) (e : Event) → Appended old e new → is_seal e ≡ false → cuts_in new ≡ cuts_in old
cuts_after old new e more plain =
    (λ t. sealed_snapshots (system_of (more.0 t)) (more.3 t) (more.2 t))
    ∙ sealed_more (machine old) e plain old.journal.events (start_state old.start)

pub stayed_after : (old new : HubValues) (e : Event) → Appended old e new → is_plain e ≡ true → HasStayed old new
stayed_after old new e more plain = record {
  job = more.0;
  start = more.3;
  cuts = cuts_after old new e more (plain_seals e plain);
  waits = ap (λ (s : State). sealed_epoch s.past) (state_grown old new e more) ∙ plain_waits e (state_of old).past plain;
}

pub stayed_on : (old between new : HubValues) → HasStayed old between → HasStayed between new → HasStayed old new
stayed_on old between new a b = record { job = b.job ∙ a.job; start = b.start ∙ a.start; cuts = b.cuts ∙ a.cuts; waits = b.waits ∙ a.waits }

-- ---- the run goes on

-- a keeper into which nothing was written
pub keeper_same : (keeper : Keeper) (into : SnapshotParts) → into ≡ keeper.into → record { store = keeper.store; kept = keeper.kept; into = into } ≡ keeper
keeper_same keeper into same = λ t. record { store = keeper.store; kept = keeper.kept; into = same t }

kept_stays : (old new : HubValues) (keeper : Keeper) → HasStayed old new → HasKept old.job old.start (cuts_in old) keeper → HasKept new.job new.start (cuts_in new) keeper
kept_stays old new keeper stays kept =
    subst (λ (job : Job). HasKept job new.start (cuts_in new) keeper) (sym stays.job)
    (subst (λ (start : SnapshotParts). HasKept old.job start (cuts_in new) keeper) (sym stays.start) (subst (λ (cuts : List SnapshotParts). HasKept old.job old.start cuts keeper) (sym stays.cuts) kept))

pub going_stays : (old new : HubValues) (keeper : Keeper) → HasStayed old new → HasNoDiskStop new → IsGoing old keeper → IsGoing new keeper
going_stays old new keeper stays disk going = record { disk = disk; unsealed = stays.waits ∙ going.unsealed; kept = kept_stays old new keeper stays going.kept }

-- ---- the run doesn't go on

-- what the Kepts of a journal say is noted first, where what was sealed is noted
noted_all : KeptsFollowSeals → (h : HubValues) (kept : List KeptAt) → IsHub h → kept_epochs kept ≡ epochs_of (cuts_in h) → (more : List ℕ) × (kept_epochs kept ≡ epochs_kept h.journal.events ++ more)
noted_all follow h kept hub all = (waiting_in (sealed_epoch (state_of h).past), all ∙ follow h hub)

-- or where the one that waits isn't
noted_but_one : KeptsFollowSeals → (h : HubValues) (waiting : ℕ) (kept : List KeptAt) → IsHub h → sealed_epoch (state_of h).past ≡ Some waiting → kept_epochs kept ++ waiting ∷ [] ≡ epochs_of (cuts_in h) →
    (more : List ℕ) × (kept_epochs kept ≡ epochs_kept h.journal.events ++ more)
noted_but_one follow h waiting kept hub waits all =
    let whole : kept_epochs kept ++ waiting ∷ [] ≡ epochs_kept h.journal.events ++ waiting ∷ [] = all ∙ (follow h hub ∙ ap (λ (o : Option ℕ). epochs_kept h.journal.events ++ waiting_in o) waits) in
    ([], ends_same (kept_epochs kept) (epochs_kept h.journal.events) waiting whole ∙ sym (append-nil (epochs_kept h.journal.events)))
  where
    drop_last : List ℕ → List ℕ
    drop_last [] = []
    drop_last (x ∷ []) = []
    drop_last (x ∷ y ∷ xs) = x ∷ drop_last (y ∷ xs)

    dropped : (xs : List ℕ) (x : ℕ) → drop_last (xs ++ x ∷ []) ≡ xs
    dropped [] x = refl
    dropped (y ∷ []) x = refl
    dropped (y ∷ z ∷ xs) x = ap {B = List ℕ} (λ l. y ∷ l) (dropped (z ∷ xs) x)

    ends_same : (xs ys : List ℕ) (x : ℕ) → xs ++ x ∷ [] ≡ ys ++ x ∷ [] → xs ≡ ys
    ends_same xs ys x e = sym (dropped xs x) ∙ (ap drop_last e ∙ dropped ys x)

pub noted_by : KeptsFollowSeals → (h : HubValues) (waiting : ℕ) (kept : List KeptAt) → IsHub h → sealed_epoch (state_of h).past ≡ Some waiting → HasNoted waiting (cuts_in h) kept → (more : List ℕ) × (kept_epochs kept ≡ epochs_kept h.journal.events ++ more)
noted_by follow h waiting kept hub waits (inl all) = noted_all follow h kept hub all
noted_by follow h waiting kept hub waits (inr all) = noted_but_one follow h waiting kept hub waits all

-- a run that the disk didn't stop
pub over_stays : KeptsFollowSeals → (old new : HubValues) (keeper : Keeper) (faults : ℕ) → IsHub new → HasStayed old new → HasNoDiskStop new → IsGoing old keeper → IsOver new keeper.kept.items faults faults
over_stays follow old new keeper faults hub stays disk going = record {
  noted = noted_all follow new keeper.kept.items hub (going.kept.noted ∙ ap (λ (cuts : List SnapshotParts). epochs_of cuts) (sym stays.cuts));
  disk = λ stopped. absurd (false≢true (sym disk ∙ stopped));
  done = λ _. refl;
}

-- ---- the state file

module _ {D : Type 0} (content : D → Option (List ℕ)) (images : D → ℕ → List ℕ → Type 0) (moment : D → ℕ) where
  pub keeps_stays : (job : Job) (cuts more : List SnapshotParts) (keeper : Keeper) (disk : D) → more ≡ cuts → KeepsOn content images moment job cuts keeper disk more keeper disk
  keeps_stays job cuts more keeper disk same file began may =
      subst (λ (cs : List SnapshotParts). MayKeep content images moment (shape_of job) (digest_in keeper.store) cs keeper.kept.items file (last_in keeper.store) began disk) (sym same) may

  pub comes_stays : (job : Job) (cuts more : List SnapshotParts) (keeper : Keeper) (disk : D) → more ≡ cuts → ComesTo content images moment job cuts keeper disk more keeper.kept.items disk
  comes_stays job cuts more keeper disk same file began may = (keeps_stays job cuts more keeper disk same file began may).survives

  pub sealed_keeps : (job : Job) (shape : Starts) (cuts more : List SnapshotParts) (keeper kept : Keeper) (s : SnapshotParts) (old new : D) → shape ≡ shape_of job → more ≡ cuts ++ s ∷ [] → last_in kept.store ≡ s.epoch →
      KeepsOne content images moment shape (digest_in keeper.store) s (last_in keeper.store) keeper.kept.items kept.kept.items old new → KeepsOn content images moment job cuts keeper old more kept new
  sealed_keeps job shape cuts more keeper kept s old new same is last one file began may =
      let digest = digest_in keeper.store in
      subst (λ (cs : List SnapshotParts). MayKeep content images moment (shape_of job) digest cs kept.kept.items file (last_in kept.store) began new) (sym is)
      (subst (λ (n : ℕ). MayKeep content images moment (shape_of job) digest (cuts ++ s ∷ []) kept.kept.items file n began new) (sym last)
      (subst (λ (x : Starts). KeepsOne content images moment x digest s (last_in keeper.store) keeper.kept.items kept.kept.items old new) same one cuts file began may))

  pub sealed_comes : (job : Job) (shape : Starts) (cuts more : List SnapshotParts) (keeper : Keeper) (kept : List KeptAt) (s : SnapshotParts) (old new : D) → shape ≡ shape_of job → more ≡ cuts ++ s ∷ [] →
      MayHaveKept content images moment shape (digest_in keeper.store) s (last_in keeper.store) keeper.kept.items kept old new → ComesTo content images moment job cuts keeper old more kept new
  sealed_comes job shape cuts more keeper kept s old new same is may_have file began may =
      let digest = digest_in keeper.store in
      subst (λ (cs : List SnapshotParts). Survives images moment (shape_of job) digest cs kept file began new) (sym is)
      (subst (λ (x : Starts). MayHaveKept content images moment x digest s (last_in keeper.store) keeper.kept.items kept old new) same may_have cuts file began may)

-- ---- a Seal, and what was put after it

-- a run that seals asks for snapshots
pub asks : NothingIsSealed → (h : HubValues) (epoch : ℕ) → IsHub h → duty_choice (machine h) (state_of h) ≡ Some (Seal epoch) → 1 ≤ h.job.settings.snapshot
asks nothing h epoch hub chosen = by_setting h.job.settings.snapshot refl
  where
    by_setting : (n : ℕ) → h.job.settings.snapshot ≡ n → 1 ≤ h.job.settings.snapshot
    by_setting zero is = absurd ((nothing h hub is).1 epoch chosen)
    by_setting (suc n) is = omega (arith, is)

pub has_last : (epoch : ℕ) (store : Option StoreValue) → HasLast epoch store → HasLast (last_in store) store × (last_in store ≡ epoch)
has_last epoch None h = absurd h
has_last epoch (Some store) h = (refl, h)

-- a snapshot more is sealed and noted
noted_more : (kept more : List KeptAt) (cuts : List SnapshotParts) (s : SnapshotParts) → kept_epochs kept ≡ epochs_of cuts → kept_epochs more ≡ kept_epochs kept ++ s.epoch ∷ [] → kept_epochs more ≡ epochs_of (cuts ++ s ∷ [])
noted_more kept more cuts s all one = one ∙ (ap (λ (es : List ℕ). es ++ s.epoch ∷ []) all ∙ sym (map-append (λ (x : SnapshotParts). x.epoch) cuts (s ∷ [])))

-- all that was sealed is kept, once the last one is
pub kept_more : (job : Job) (start : SnapshotParts) (cuts : List SnapshotParts) (keeper kept : Keeper) (s : SnapshotParts) → HasKept job start cuts keeper → s.epoch ≡ start.epoch + length cuts + 1 → HasSizesFor job s →
    kept_epochs kept.kept.items ≡ kept_epochs keeper.kept.items ++ s.epoch ∷ [] → HasLast s.epoch kept.store → kept.into ≡ s → HasKept job start (cuts ++ s ∷ []) kept
kept_more job start cuts keeper kept s has next sizes noted last into =
    let n : length (cuts ++ s ∷ []) ≡ length cuts + 1 = length-append cuts (s ∷ []) in record {
      noted = noted_more keeper.kept.items kept.kept.items cuts s has.noted noted;
      store = λ asked. subst (λ (k : ℕ). HasLast k kept.store) (omega (arith, next, n)) last;
      sizes = subst (λ (x : SnapshotParts). HasSizesFor job x) (sym into) sizes;
    }

-- a journal that goes on after an event has the next one
pub appended_after : (old between new : HubValues) (e f : Event) → Appended old e between → is_last e ≡ false → AppendedUnlessEnded between f new → Appended between f new
appended_after old between new e f more going after = MatchBool-at_false _ _ (ends_with old between e more ∙ going) after

-- after its Kept the run goes on
pub going_sealed : (old sealed new : HubValues) (epoch : ℕ) (s : SnapshotParts) (keeper kept : Keeper) → IsGoing old keeper → Appended old (Seal epoch) sealed → IsSealedNext old sealed epoch s → Appended sealed (Kept epoch) new → HasSizesFor old.job s →
    kept_epochs kept.kept.items ≡ kept_epochs keeper.kept.items ++ s.epoch ∷ [] → HasLast s.epoch kept.store → kept.into ≡ s → IsGoing new kept
going_sealed old sealed new epoch s keeper kept going more next after sizes noted last into =
    let job : new.job ≡ old.job = after.0 ∙ more.0 in
    let start : new.start ≡ old.start = after.3 ∙ more.3 in
    let cuts : cuts_in new ≡ cuts_in old ++ s ∷ [] = cuts_after sealed new (Kept epoch) after refl ∙ next.cuts in
    let named = next.named in
    let turn = next.next in
    let has = kept_more old.job old.start (cuts_in old) keeper kept s going.kept (omega (arith, named, turn)) sizes noted last into in record {
      disk = ap (λ (es : List Event). is_stopped_by_disk (reverse es)) after.2 ∙ stopped_last sealed.journal.events (Kept epoch);
      unsealed = ap (λ (x : State). sealed_epoch x.past) (state_grown sealed new (Kept epoch) after);
      kept = subst (λ (j : Job). HasKept j new.start (cuts_in new) kept) (sym job)
          (subst (λ (z : SnapshotParts). HasKept old.job z (cuts_in new) kept) (sym start) (subst (λ (cs : List SnapshotParts). HasKept old.job old.start cs kept) (sym cuts) has));
    }

-- the last of two lists that are one
same_last : (xs ys : List Event) (x y : Event) → xs ++ x ∷ [] ≡ ys ++ y ∷ [] → x ≡ y
same_last xs ys x y e = ap (first End) (sym (reverse-append xs (x ∷ [])) ∙ (ap (λ (es : List Event). reverse es) e ∙ reverse-append ys (y ∷ [])))
  where
    first : Event → List Event → Event
    first z [] = z
    first z (e ∷ es) = e

-- a Stop is no End
pub stop_ends : (old new : HubValues) (cause : StopCause) → Appended old (Stop cause) new → EndsBy End new.journal.events → ⊥
stop_ends old new cause more ends = absurd (cc (same_last ends.0 old.journal.events End (Stop cause) (sym ends.1 ∙ more.2)))

-- a Stop for the disk
pub stopped_by : (cause : StopCause) → is_disk (Stop cause) ≡ true → cause ≡ Disk
stopped_by Disk h = refl
stopped_by Memory h = absurd (false≢true h)

-- after a Stop behind it the run doesn't go on
pub over_sealed : KeptsFollowSeals → (old sealed new : HubValues) (epoch : ℕ) (cause : StopCause) (s : SnapshotParts) (keeper : Keeper) (kept : List KeptAt) (before after : ℕ) → IsHub new → IsGoing old keeper → IsSealedNext old sealed epoch s →
    Appended sealed (Stop cause) new → kept ≡ keeper.kept.items → (cause ≡ Disk → Rose before after) → IsOver new kept before after
over_sealed follow old sealed new epoch cause s keeper kept before after hub going next more same rose =
    let cuts : cuts_in new ≡ cuts_in old ++ s ∷ [] = cuts_after sealed new (Stop cause) more refl ∙ next.cuts in
    let waits : sealed_epoch (state_of new).past ≡ Some epoch = ap (λ (x : State). sealed_epoch x.past) (state_grown sealed new (Stop cause) more) ∙ next.waits in
    let all : kept_epochs kept ++ epoch ∷ [] ≡ epochs_of (cuts_in new) =
    ap (λ (ks : List KeptAt). kept_epochs ks ++ epoch ∷ []) same
    ∙ (ap (λ (es : List ℕ). es ++ epoch ∷ []) going.kept.noted
    ∙ (ap (λ (n : ℕ). epochs_of (cuts_in old) ++ n ∷ []) (sym next.named) ∙ (sym (map-append (λ (x : SnapshotParts). x.epoch) (cuts_in old) (s ∷ [])) ∙ ap (λ (cs : List SnapshotParts). epochs_of cs) (sym cuts)))) in
    record {
      noted = noted_but_one follow new epoch kept hub waits all;
      disk = λ stopped. rose (stopped_by cause (sym (stopped_last sealed.journal.events (Stop cause)) ∙ (ap (λ (es : List Event). is_stopped_by_disk (reverse es)) (sym more.2) ∙ stopped)));
      done = λ ends. absurd (stop_ends sealed new cause more ends);
    }

-- where the disk failed it stopped the run
pub only_so : (sealed new : HubValues) (cause : StopCause) (before after : ℕ) → Appended sealed (Stop cause) new → (cause ≡ Memory → after ≡ before) → FailsOnlySo new before after
only_so sealed new Disk before after more same = inl (ap (λ (es : List Event). is_stopped_by_disk (reverse es)) more.2 ∙ stopped_last sealed.journal.events (Stop Disk))
only_so sealed new Memory before after more same = inr (same refl)

-- ---- over more of a run

module _ {D : Type 0} (moment : D → ℕ) (honest : D → Bool) where
  pub used_not : (job : Job) (disk : D) → HasUsed moment honest job disk disk
  used_not job disk = record { unused = λ _. refl; later = omega arith; honest_stays = refl }

  pub used_on : (job other : Job) (old mid new : D) → other ≡ job → HasUsed moment honest job old mid → HasUsed moment honest other mid new → HasUsed moment honest job old new
  used_on job other old mid new same a b = record {
    unused = λ none. b.unused (ap (λ (j : Job). j.settings.snapshot) same ∙ none) ∙ a.unused none;
    later = (let x = a.later in let y = b.later in omega (arith, x, y));
    honest_stays = b.honest_stays ∙ a.honest_stays;
  }

module _ {D : Type 0} (content : D → Option (List ℕ)) (images : D → ℕ → List ℕ → Type 0) (moment : D → ℕ) where
  pub keeps_not : (job : Job) (cuts : List SnapshotParts) (keeper : Keeper) (disk : D) → KeepsOn content images moment job cuts keeper disk cuts keeper disk
  keeps_not job cuts keeper disk file began may = may

  pub keeps_on : (job other : Job) (first cuts more : List SnapshotParts) (begin keeper kept : Keeper) (old mid new : D) → other ≡ job → digest_in keeper.store ≡ digest_in begin.store →
      KeepsOn content images moment job first begin old cuts keeper mid → KeepsOn content images moment other cuts keeper mid more kept new → KeepsOn content images moment job first begin old more kept new
  keeps_on job other first cuts more begin keeper kept old mid new same digest a b file began may =
      let Next : Job → List ℕ → Type 0 = λ j d. MayKeep content images moment (shape_of j) d cuts keeper.kept.items file (last_in keeper.store) began mid → MayKeep content images moment (shape_of j) d more kept.kept.items file (last_in kept.store) began new in
      subst (λ (j : Job). Next j (digest_in begin.store)) same (subst (λ (d : List ℕ). Next other d) digest (b file began)) (a file began may)

  pub comes_on : (job other : Job) (first cuts more : List SnapshotParts) (begin keeper : Keeper) (kept : List KeptAt) (old mid new : D) → other ≡ job → digest_in keeper.store ≡ digest_in begin.store →
      KeepsOn content images moment job first begin old cuts keeper mid → ComesTo content images moment other cuts keeper mid more kept new → ComesTo content images moment job first begin old more kept new
  comes_on job other first cuts more begin keeper kept old mid new same digest a b file began may =
      let Next : Job → List ℕ → Type 0 = λ j d. MayKeep content images moment (shape_of j) d cuts keeper.kept.items file (last_in keeper.store) began mid → Survives images moment (shape_of j) d more kept file began new in
      subst (λ (j : Job). Next j (digest_in begin.store)) same (subst (λ (d : List ℕ). Next other d) digest (b file began)) (a file began may)
