-- How a run enters.
use Rattle.std.proofs.Common.{◌≡◌, ◌≢◌, ◌⊎◌, inl, inr, refl, sym, ◌∙◌, ap, subst, arith, ℕ, zero, suc, ◌<◌, ◌≤◌, ◌%◌, List, [], length, Bool, IsTrue, Option, Some, None, Result, Err}
use Rattle.graph_core.specs.declared.job.Job.{Job}
use Rattle.graph_core.specs.Graphs.{IsJob}
use Rattle.token_cut.specs.Form.{IsInSlotForm}
use Rattle.token_cut.specs.Parts.{SnapshotParts}
use Rattle.token_cut.specs.Shapes.{Starts}
use Rattle.token_cut.specs.Shapes as shapes
use Rattle.base_machine.specs.Machine.{system_of}
use Rattle.base_machine.specs.Fitness.{IsInForm}
use Rattle.grape_disk.specs.Images.{AtRest}
use Rattle.snapshot_store.specs.Stores.{StoreValue}
use Rattle.snapshot_store.specs.declared.fault.StoreFault.{StoreFault}
use Rattle.snapshot_store.specs.declared.fault.StoreFault.TheVariants as store
use Rattle.recovery.specs.Crashes.{Survives, MayKeep, ClaimBegins}
use Rattle.recovery.specs.Entries.{StartsFrom, HasStore, RecoversFrom}
use Rattle.recovery.specs.declared.entry.Entry.{Entry}
use Rattle.recovery.specs.declared.entry.EntryFault.{EntryFault}
use Rattle.recovery.specs.declared.entry.EntryFault.TheVariants as entry
use Rattle.grape_hub.proofs.Answering.{fresh_is_a_start}
use Rattle.coordinator.specs.Shapes.{shape_of, EntriesMayBegin}
use Rattle.coordinator.proofs.Beginnings.{begun_fresh}
use Rattle.grape_run.specs.Commands.{StartsBy, RefusesFor}
use Rattle.grape_run.specs.Entering.{IsUnanswered, entry_status, store_status, HasEntered}
use Rattle.grape_run.specs.declared.beginning.Beginning.{Beginning}
use Rattle.grape_run.specs.declared.beginning.Beginning.TheVariants.{Fresh, Resumed}

pub zero_or_more : (n : ℕ) → (n ≡ 0) ⊎ (1 ≤ n)
zero_or_more zero = inl refl
zero_or_more (suc n) = inr (omega arith)

store_for : (dig digest : List ℕ) (epoch now : ℕ) (s : Option StoreValue) → dig ≡ digest → epoch ≡ now → HasStore dig epoch s → HasStore digest now s
store_for dig digest epoch now s is at h = subst (λ (n : ℕ). HasStore digest n s) at (subst (λ (d : List ℕ). HasStore d epoch s) is h)

-- ---- from the beginning

fresh_form : (job : Job) (start : SnapshotParts) → IsJob job → start ≡ shapes.fresh_snapshot (shape_of job) → IsInForm (system_of job) start
fresh_form job start is_job fresh = subst (IsInForm (system_of job)) (sym (begun_fresh job (shape_of job) start refl fresh)) (fresh_is_a_start job is_job).0

-- the status of a fresh run that can't begin
pub fresh_refuses : (job : Job) (digest : List ℕ) (content : Option (List ℕ)) (fault : EntryFault) →
    ((size : ℕ) → fault ≡ entry.StateThere size → (1 ≤ job.settings.snapshot) × (0 < size) × ((file : List ℕ) → content ≡ Some file → size ≡ length file)) →
    ((e : StoreFault) → fault ≡ entry.Store e → (e ≡ store.Disk) ⊎ (e ≡ store.NoMemory)) → IsUnanswered (entry_status fault) × RefusesFor Fresh job digest content (entry_status fault)
fresh_refuses job digest content (entry.StateThere size) there no_other = let t = there size refl in (tt, (refl, t.0, t.1, t.2))
fresh_refuses job digest content (entry.Store store.Disk) there no_other = (tt, tt)
fresh_refuses job digest content (entry.Store store.NoMemory) there no_other = (tt, tt)
fresh_refuses job digest content (entry.Store (store.Other kept here)) there no_other = elim (no_other (store.Other kept here) refl) [ inl e ↦ absurd (cc e) | inr e ↦ absurd (cc e) ]
fresh_refuses job digest content (entry.Store (store.Damaged place)) there no_other = elim (no_other (store.Damaged place) refl) [ inl e ↦ absurd (cc e) | inr e ↦ absurd (cc e) ]

-- ---- from the state file

starts_resumed : (job : Job) (digest : List ℕ) (content : Option (List ℕ)) (start : SnapshotParts) →
    ((file : List ℕ) → content ≡ Some file → StartsFrom (shape_of job) digest file start) → (bytes : List ℕ) → StartsFrom (shape_of job) digest bytes start → StartsBy Resumed job digest content start
starts_resumed job digest None start told bytes read = (bytes, read)
starts_resumed job digest (Some file) start told bytes read = told file refl

-- the status of a run that can't be resumed
pub resumed_refuses : (job : Job) (digest : List ℕ) (content : Option (List ℕ)) (fault : StoreFault) →
    ((file : List ℕ) → content ≡ Some file → RecoversFrom (shape_of job) digest file (Err fault)) →
    ((kept here : List ℕ) → fault ≡ store.Other kept here → (here ≡ digest) × (kept ≢ digest)) → IsUnanswered (store_status fault) × RefusesFor Resumed job digest content (store_status fault)
resumed_refuses job digest content store.Disk start names = (tt, tt)
resumed_refuses job digest content store.NoMemory start names = (tt, tt)
resumed_refuses job digest content (store.Other kept here) start names =
    let both = names kept here refl in (tt, (refl, both.0, λ same. both.1 (same ∙ both.0), λ file told. (start file told).0))
resumed_refuses job digest content (store.Damaged place) start names = (tt, (refl, λ file told. start file told))

module _ {D : Type 0} (content : D → Option (List ℕ)) (images : D → ℕ → List ℕ → Type 0) (moment : D → ℕ) (honest : D → Bool) where
  survives_for : (shape shape_new : Starts) (dig digest file : List ℕ) (old new : D) → shape ≡ shape_new → dig ≡ digest → Survives images moment shape dig [] [] file old new → Survives images moment shape_new digest [] [] file old new
  survives_for shape shape_new dig digest file old new same is s =
      subst (λ (x : Starts). Survives images moment x digest [] [] file old new) same (subst (λ (x : List ℕ). Survives images moment shape x [] [] file old new) is s)

  may_keep_for : (shape shape_new : Starts) (dig digest file : List ℕ) (epoch now : ℕ) (old new : D) → shape ≡ shape_new → dig ≡ digest → epoch ≡ now →
      MayKeep content images moment shape dig [] [] file epoch old new → MayKeep content images moment shape_new digest [] [] file now old new
  may_keep_for shape shape_new dig digest file epoch now old new same is at m =
      subst (λ (n : ℕ). MayKeep content images moment shape_new digest [] [] file n old new) at
      (subst (λ (x : Starts). MayKeep content images moment x digest [] [] file epoch old new) same (subst (λ (x : List ℕ). MayKeep content images moment shape x [] [] file epoch old new) is m))

  -- what a crash in the entry of a fresh run leaves
  pub fresh_crash : (job : Job) (shape : Starts) (dig digest : List ℕ) (old new : D) → ClaimBegins content images moment → shape ≡ shape_of job → (1 ≤ job.settings.snapshot → dig ≡ digest) → (job.settings.snapshot ≡ 0 → new ≡ old) →
      (IsTrue (honest old) → (file : List ℕ) → AtRest content images moment old file → Survives images moment shape dig [] [] file old new) →
      IsTrue (honest old) → (file : List ℕ) → AtRest content images moment old file → Survives images moment (shape_of job) digest [] [] file old new
  fresh_crash job shape dig digest old new begins same is unused crash = λ h file rest. elim (zero_or_more job.settings.snapshot) [
    | inl z ↦ subst (λ (d : D). Survives images moment (shape_of job) digest [] [] file old d) (sym (unused z)) (begins (shape_of job) digest file old)
    | inr m ↦ survives_for shape (shape_of job) dig digest file old new same (is m) (crash h file rest)
  ]

  pub fresh_enters : (job : Job) (shape : Starts) (dig digest : List ℕ) (start : SnapshotParts) (s : Option StoreValue) (old new : D) → IsJob job → shape ≡ shape_of job → (1 ≤ job.settings.snapshot → dig ≡ digest) →
      start ≡ shapes.fresh_snapshot shape → (1 ≤ job.settings.snapshot → HasStore dig 0 s) → (1 ≤ job.settings.snapshot → (file : List ℕ) → content old ≡ Some file → file ≡ []) →
      (1 ≤ job.settings.snapshot → IsTrue (honest old) → (file : List ℕ) → AtRest content images moment old file → MayKeep content images moment shape dig [] [] file 0 old new) →
      HasEntered content images moment honest Fresh job digest start s old new
  fresh_enters job shape dig digest start s old new is_job same is fresh has empty ready =
      let begun = fresh ∙ ap (λ (x : Starts). shapes.fresh_snapshot x) same in
      let zero_epoch = sym (ap (λ (x : SnapshotParts). x.epoch) begun) in
      record {
        starts = begun_fresh job (shape_of job) start refl begun;
        free = empty;
        form = fresh_form job start is_job begun;
        has_store = λ m. store_for dig digest 0 start.epoch s (is m) zero_epoch (has m);
        ready = λ m h file rest. may_keep_for shape (shape_of job) dig digest file 0 start.epoch old new same (is m) zero_epoch (ready m h file rest);
      }

  pub resumed_enters : EntriesMayBegin → (job : Job) (shape : Starts) (dig digest bytes : List ℕ) (start : SnapshotParts) (s : Option StoreValue) (old new : D) → IsJob job → shape ≡ shape_of job → dig ≡ digest →
      ((file : List ℕ) → content old ≡ Some file → StartsFrom shape dig file start) → StartsFrom shape dig bytes start → (start ≡ shapes.fresh_snapshot shape) ⊎ IsInSlotForm shape (start.epoch % 2) start →
      (1 ≤ job.settings.snapshot → HasStore dig start.epoch s) →
      (1 ≤ job.settings.snapshot → IsTrue (honest old) → (file : List ℕ) → AtRest content images moment old file → MayKeep content images moment shape dig [] [] file start.epoch old new) →
      HasEntered content images moment honest Resumed job digest start s old new
  resumed_enters may job shape dig digest bytes start s old new is_job same is told read form has ready =
      let from : (file : List ℕ) → StartsFrom shape dig file start → StartsFrom (shape_of job) digest file start =
      λ file f. subst (λ (x : Starts). StartsFrom x digest file start) same (subst (λ (x : List ℕ). StartsFrom shape x file start) is f) in
      record {
        starts = starts_resumed job digest (content old) start (λ file t. from file (told file t)) bytes (from bytes read);
        free = tt;
        form = may job is_job start (subst (λ (x : Starts). (start ≡ shapes.fresh_snapshot x) ⊎ IsInSlotForm x (start.epoch % 2) start) same form);
        has_store = λ m. store_for dig digest start.epoch start.epoch s is refl (has m);
        ready = λ m h file rest. may_keep_for shape (shape_of job) dig digest file start.epoch start.epoch old new same is refl (ready m h file rest);
      }

  pub resumed_crash : (job : Job) (shape : Starts) (dig digest : List ℕ) (old new : D) → shape ≡ shape_of job → dig ≡ digest →
      (IsTrue (honest old) → (file : List ℕ) → AtRest content images moment old file → Survives images moment shape dig [] [] file old new) →
      IsTrue (honest old) → (file : List ℕ) → AtRest content images moment old file → Survives images moment (shape_of job) digest [] [] file old new
  resumed_crash job shape dig digest old new same is crash = λ h file rest. survives_for shape (shape_of job) dig digest file old new same is (crash h file rest)

pub recovers_for : (shape shape_new : Starts) (dig digest file : List ℕ) (r : Result Entry StoreFault) → shape ≡ shape_new → dig ≡ digest → RecoversFrom shape dig file r → RecoversFrom shape_new digest file r
recovers_for shape shape_new dig digest file r same is h =
    subst (λ (x : Starts). RecoversFrom x digest file r) same (subst (λ (x : List ℕ). RecoversFrom shape x file r) is h)

-- both digests of a file of another input, where it was opened with this one
pub named : (kept here dig digest : List ℕ) → dig ≡ digest → here ≡ dig → kept ≢ dig → (here ≡ digest) × (kept ≢ digest)
named kept here dig digest is same differ = (same ∙ is, λ e. differ (e ∙ sym is))

abbrev is_run : Beginning → Type 0
is_run Fresh = Unit {0}
is_run Resumed = ⊥

pub not_run : Resumed ≡ Fresh → ⊥
not_run e = subst is_run (sym e) tt
