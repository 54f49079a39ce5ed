-- What a run that keeps its snapshots has sealed, and what it may keep next.
use Rattle.std.specs.Prelude.{◌≡◌, ◌⊎◌, ℕ, ◌+◌, ◌%◌, ◌≤◌, true, false, Bool, MatchBool, List, [], ◌∷◌, ◌++◌, Option, Some, None, map, length, reverse}
use Rattle.grape_port.specs.Ports.{Rose}
use Rattle.graph_core.specs.declared.job.Job.{Job}
use Rattle.graph_core.specs.Fragments.{places}
use Rattle.grape_event.specs.declared.event.Event.TheVariants.{Seal, End}
use Rattle.token_cut.specs.Parts.{SnapshotParts}
use Rattle.token_cut.specs.Shapes.{sizes_of}
use Rattle.token_cut.specs.Form.{IsInSlotForm}
use Rattle.base_machine.specs.Machine.{system_of}
use Rattle.legal_journal.specs.Cuts.{sealed_snapshot, sealed_snapshots, epochs_kept}
use Rattle.snapshot_store.specs.Stores.{StoreValue}
use Rattle.recovery.specs.Crashes.{epochs_of, kept_epochs, Survives, MayKeep}
use Rattle.recovery.specs.declared.kept_at.KeptAt.{KeptAt}
use Rattle.hub_engine.specs.HubValues.{HubValues}
use Rattle.hub_engine.specs.States.{machine, state_of, sealed_epoch, IsHub}
use Rattle.hub_engine.specs.Calls.{Appended}
use Rattle.grape_hub.specs.Notes.{is_stopped_by_disk}
use Rattle.coordinator.specs.Shapes.{shape_of}
use Rattle.coordinator.specs.Runs.{EndsBy, HasLast}
use Rattle.coordinator.specs.declared.keeper.Keeper.{Keeper}

-- the snapshots that a hub's journal seals, in order
abbrev pub cuts_in : HubValues → List SnapshotParts
cuts_in h = sealed_snapshots (machine h) h.start h.journal.events

-- the last epoch that was sealed, or the start's
abbrev pub last_sealed : HubValues → ℕ
last_sealed h = h.start.epoch + length (cuts_in h)

-- The snapshot of a Seal has the next epoch, may stand in that epoch's slot of the state file, is the last that was sealed, and waits to be kept.
pub record IsSealedNext (old new : HubValues) (epoch : ℕ) (snapshot : SnapshotParts) : Type 0 where
  pub named : snapshot.epoch ≡ epoch
  pub next : epoch ≡ last_sealed old + 1
  pub form : IsInSlotForm (shape_of old.job) (epoch % 2) snapshot
  pub cuts : cuts_in new ≡ cuts_in old ++ snapshot ∷ []
  pub waits : sealed_epoch (state_of new).past ≡ Some epoch

abbrev pub SealsMayBeKept : Type 0
SealsMayBeKept =
    (old new : HubValues) (epoch : ℕ) (snapshot : SnapshotParts) → IsHub old → Appended old (Seal epoch) new → IsHub new →
    sealed_snapshot (machine new) new.start epoch new.journal.events ≡ Some snapshot → IsSealedNext old new epoch snapshot

-- ---- what is kept

-- the digest of a store, or nothing
abbrev pub digest_in : Option StoreValue → List ℕ
digest_in None = []
digest_in (Some store) = store.digest

-- the epoch that a store has kept last, or 0
abbrev pub last_in : Option StoreValue → ℕ
last_in None = 0
last_in (Some store) = store.last

-- the snapshot has the sizes of the job's fragments, where the job asks for snapshots
abbrev pub HasSizesFor : Job → SnapshotParts → Type 0
HasSizesFor job snapshot = 1 ≤ job.settings.snapshot → sizes_of snapshot.parts ≡ map (λ piece. (length (places piece), length piece.mirrors)) (system_of job).pieces

-- In a run of the job from this start all that was sealed is kept and noted, the store goes on from the last, and the next snapshot can be written.
pub record HasKept (job : Job) (start : SnapshotParts) (cuts : List SnapshotParts) (keeper : Keeper) : Type 0 where
  pub noted : kept_epochs keeper.kept.items ≡ epochs_of cuts
  pub store : 1 ≤ job.settings.snapshot → HasLast (start.epoch + length cuts) keeper.store
  pub sizes : HasSizesFor job keeper.into

-- the epoch that waits to be kept is noted, or all the others are
abbrev pub HasNoted : ℕ → List SnapshotParts → List KeptAt → Type 0
HasNoted waiting cuts kept = (kept_epochs kept ≡ epochs_of cuts) ⊎ (kept_epochs kept ++ waiting ∷ [] ≡ epochs_of cuts)

-- ---- one lane's hub

-- The run goes on: what was sealed is kept, and the disk didn't stop it.
pub record IsGoing (h : HubValues) (keeper : Keeper) : Type 0 where
  pub disk : is_stopped_by_disk (reverse h.journal.events) ≡ false
  pub unsealed : sealed_epoch (state_of h).past ≡ None
  pub kept : HasKept h.job h.start (cuts_in h) keeper

-- The run doesn't go on: what its Kepts say was kept is noted first, the disk stopped it only where its count of faults rose, and where it ends by End the count is as it was.
pub record IsOver (h : HubValues) (kept : List KeptAt) (faults_old faults_new : ℕ) : Type 0 where
  pub noted : (more : List ℕ) × (kept_epochs kept ≡ epochs_kept h.journal.events ++ more)
  pub disk : is_stopped_by_disk (reverse h.journal.events) ≡ true → Rose faults_old faults_new
  pub done : EndsBy End h.journal.events → faults_new ≡ faults_old

-- where the disk failed it stopped the run
abbrev pub FailsOnlySo : HubValues → ℕ → ℕ → Type 0
FailsOnlySo h faults_old faults_new = (is_stopped_by_disk (reverse h.journal.events) ≡ true) ⊎ (faults_new ≡ faults_old)

-- what a turn leaves, by whether the run goes on
abbrev pub TurnLeaves : Bool → HubValues → Keeper → ℕ → ℕ → Type 0
TurnLeaves goes_on h keeper faults_old faults_new =
    MatchBool goes_on (IsGoing h keeper × (faults_new ≡ faults_old)) (IsOver h keeper.kept.items faults_old faults_new × FailsOnlySo h faults_old faults_new)

-- ---- the state file

module _ {D : Type 0} (content : D → Option (List ℕ)) (images : D → ℕ → List ℕ → Type 0) (moment : D → ℕ) where
  -- whatever the file and the beginning: where the next snapshot might be kept before, it may be kept now
  abbrev pub KeepsOn : Job → List SnapshotParts → Keeper → D → List SnapshotParts → Keeper → D → Type 0
  KeepsOn job cuts keeper old more keeper_new new =
      (file : List ℕ) (began : D) → MayKeep content images moment (shape_of job) (digest_in keeper.store) cuts keeper.kept.items file (last_in keeper.store) began old →
      MayKeep content images moment (shape_of job) (digest_in keeper.store) more keeper_new.kept.items file (last_in keeper_new.store) began new

  -- whatever the file and the beginning: where the next snapshot might be kept before, a crash now leaves what is sealed and kept
  abbrev pub ComesTo : Job → List SnapshotParts → Keeper → D → List SnapshotParts → List KeptAt → D → Type 0
  ComesTo job cuts keeper old more kept new =
      (file : List ℕ) (began : D) → MayKeep content images moment (shape_of job) (digest_in keeper.store) cuts keeper.kept.items file (last_in keeper.store) began old →
      Survives images moment (shape_of job) (digest_in keeper.store) more kept file began new

  abbrev pub TurnKeeps : Bool → HubValues → Keeper → D → HubValues → Keeper → D → Type 0
  TurnKeeps goes_on h keeper old h_new keeper_new new =
      MatchBool goes_on (KeepsOn h.job (cuts_in h) keeper old (cuts_in h_new) keeper_new new) (ComesTo h.job (cuts_in h) keeper old (cuts_in h_new) keeper_new.kept.items new)
