-- How a run that has ended is told.
use Rattle.std.proofs.Common.{◌≡◌, ◌⊎◌, inl, inr, ℕ, sym, ◌∙◌, ap, subst, List, [], Option, Some, None, reverse}
use Rattle.std.proofs.lemmas.Bool.{false≢true}
use Rattle.grape_port.specs.Ports.{Rose}
use Rattle.graph_core.specs.declared.job.Job.{Job}
use Rattle.grape_event.specs.declared.event.Event.{Event}
use Rattle.grape_event.specs.declared.event.Event.TheVariants.{End, Stop}
use Rattle.grape_event.specs.declared.event.StopCause.TheVariants.{Disk, Memory}
use Rattle.token_cut.specs.Parts.{SnapshotParts}
use Rattle.snapshot_store.specs.Stores.{StoreValue}
use Rattle.recovery.specs.Crashes.{Survives, MayKeep, ClaimBegins, ClaimOpened}
use Rattle.recovery.specs.declared.kept_at.KeptAt.{KeptAt}
use Rattle.hub_engine.specs.HubValues.{HubValues}
use Rattle.grape_hub.specs.Notes.{is_stopped_by_disk}
use Rattle.coordinator.specs.Shapes.{shape_of}
use Rattle.coordinator.specs.Runs.{EndsBy, IsStoppedByDisk, IsNotStopped, KeepsNothing, KeepsBy, RunSurvives}
use Rattle.coordinator.specs.Keeping.{cuts_in, digest_in, last_in, IsOver, FailsOnlySo, ComesTo}
use Rattle.coordinator.specs.Endings.{IsStoryAt, EndedAs}
use Rattle.coordinator.specs.declared.keeper.Keeper.{Keeper}
use Rattle.coordinator.specs.declared.ran.Ran.{Ran}
use Rattle.coordinator.specs.declared.ran.Ran.TheVariants.{Done, Stopped, NoMemory}
use Rattle.coordinator.specs.declared.story.Story.{Story}
use Rattle.coordinator.proofs.Causes.{is_disk, stopped_last}

-- ---- why it was stopped

-- whether the disk stopped a run is read off its last event
by_last : (h : HubValues) (e : Event) → EndsBy e h.journal.events → is_stopped_by_disk (reverse h.journal.events) ≡ is_disk e
by_last h e ends = ap (λ (es : List Event). is_stopped_by_disk (reverse es)) ends.1 ∙ stopped_last ends.0 e

pub stopped_rose : (job : Job) (h : HubValues) (kept : List KeptAt) (before after : ℕ) (ran : Ran) → IsOver h kept before after → EndedAs job h kept ran → IsStoppedByDisk ran → Rose before after
stopped_rose job h kept before after (Done locals story) over ended is = absurd is
stopped_rose job h kept before after (Stopped Disk story) over ended is = over.disk (by_last h (Stop Disk) ended.0)
stopped_rose job h kept before after (Stopped Memory story) over ended is = absurd is
stopped_rose job h kept before after NoMemory over ended is = absurd ended

pub failed_so : (job : Job) (h : HubValues) (kept : List KeptAt) (before after : ℕ) (ran : Ran) → FailsOnlySo h before after → EndedAs job h kept ran → IsStoppedByDisk ran ⊎ (after ≡ before)
failed_so job h kept before after ran (inr same) ended = inr same
failed_so job h kept before after (Done locals story) (inl stopped) ended = absurd (false≢true (sym (by_last h End ended.0) ∙ stopped))
failed_so job h kept before after (Stopped Disk story) (inl stopped) ended = inl tt
failed_so job h kept before after (Stopped Memory story) (inl stopped) ended = absurd (false≢true (sym (by_last h (Stop Memory) ended.0) ∙ stopped))
failed_so job h kept before after NoMemory (inl stopped) ended = absurd ended

pub not_stopped : (job : Job) (h : HubValues) (kept : List KeptAt) (before after : ℕ) (ran : Ran) → IsOver h kept before after → EndedAs job h kept ran → IsNotStopped ran → after ≡ before
not_stopped job h kept before after (Done locals story) over ended is = over.done ended.0
not_stopped job h kept before after (Stopped cause story) over ended is = absurd is
not_stopped job h kept before after NoMemory over ended is = absurd ended

-- a run that has ended had begun
pub had_begun : (job : Job) (h : HubValues) (kept : List KeptAt) (ran : Ran) → EndedAs job h kept ran → ran ≡ NoMemory → ⊥
had_begun job h kept ran ended is = subst (λ (r : Ran). EndedAs job h kept r) is ended

-- a story tells what was kept
pub kept_nothing : (job : Job) (h : HubValues) (kept : List KeptAt) (ran : Ran) → EndedAs job h kept ran → kept ≡ [] → KeepsNothing ran
kept_nothing job h kept (Done locals story) ended none = ended.1.kept_here ∙ none
kept_nothing job h kept (Stopped cause story) ended none = ended.1.kept_here ∙ none
kept_nothing job h kept NoMemory ended none = absurd ended

-- ---- the state file

module _ {D : Type 0} (content : D → Option (List ℕ)) (images : D → ℕ → List ℕ → Type 0) (moment : D → ℕ) where
  survives_told : (job : Job) (digest : List ℕ) (h : HubValues) (kept : List KeptAt) (story : Story) (file : List ℕ) (old new : D) → IsStoryAt job h kept story → Survives images moment (shape_of job) digest (cuts_in h) kept file old new →
      Survives images moment (shape_of job) digest (Rattle.coordinator.specs.Runs.cuts_of job story) story.kept.items file old new
  survives_told job digest h kept story file old new is survives =
      subst (λ (cs : List SnapshotParts). Survives images moment (shape_of job) digest cs story.kept.items file old new) (sym is.cuts)
      (subst (λ (ks : List KeptAt). Survives images moment (shape_of job) digest (cuts_in h) ks file old new) (sym is.kept_here) survives)

  run_survives : (job : Job) (digest : List ℕ) (h : HubValues) (kept : List KeptAt) (ran : Ran) (file : List ℕ) (old new : D) → EndedAs job h kept ran → Survives images moment (shape_of job) digest (cuts_in h) kept file old new → RunSurvives content images moment job digest ran file old new
  run_survives job digest h kept (Done locals story) file old new ended survives = survives_told job digest h kept story file old new ended.1 survives
  run_survives job digest h kept (Stopped cause story) file old new ended survives = survives_told job digest h kept story file old new ended.1 survives
  run_survives job digest h kept NoMemory file old new ended survives = absurd ended

  -- a run that began with nothing sealed and nothing kept
  pub keeps_by : ClaimBegins content images moment → ClaimOpened content images moment → (job : Job) (h : HubValues) (keeper : Keeper) (store : Option StoreValue) (kept : List KeptAt) (ran : Ran) (old new : D) → keeper.store ≡ store → keeper.kept.items ≡ [] →
      ComesTo content images moment job [] keeper old (cuts_in h) kept new → EndedAs job h kept ran → KeepsBy content images moment job store ran old new
  keeps_by begins opened job h keeper None kept ran old new same none comes ended = tt
  keeps_by begins opened job h keeper (Some store) kept ran old new same none comes ended =
      λ file rest whole.
      let shape = shape_of job in
      let may : MayKeep content images moment shape store.digest [] [] file store.last old old = opened shape store.digest file store.last old old rest whole (begins shape store.digest file old) in
      let From : Option StoreValue → List KeptAt → Type 0 = λ o ks. MayKeep content images moment shape (digest_in o) [] ks file (last_in o) old old in
      let here : From keeper.store keeper.kept.items = subst (λ (o : Option StoreValue). From o keeper.kept.items) (sym same) (subst (λ (ks : List KeptAt). From (Some store) ks) (sym none) may) in
      run_survives job store.digest h kept ran file old new ended (subst (λ (o : Option StoreValue). Survives images moment shape (digest_in o) (cuts_in h) kept file old new) same (comes file old here))
