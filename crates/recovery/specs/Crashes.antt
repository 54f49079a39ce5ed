-- What a crash leaves of the state file of a run, by the snapshots that the run sealed and those that it kept.
use Rattle.std.specs.Prelude.{◌≡◌, ◌⊎◌, ℕ, ◌+◌, ◌<◌, ◌≤◌, max, List, [], ◌∷◌, ◌++◌, map, length, Option, Bool, IsTrue}
use Rattle.std.specs.List.{All, Contains}
use Rattle.grape_disk.specs.Images.{AtRest, Leaves}
use Rattle.token_cut.specs.Parts.{SnapshotParts}
use Rattle.token_cut.specs.Shapes.{Starts}
use Rattle.snapshot_file.specs.Lengths.{file_length}
use Rattle.snapshot_store.specs.State.{file_state, IsKept, KeepsOrTakes, Takes, StaysNothing}
use Rattle.snapshot_store.specs.State.FileState.{nothing, last}
use Rattle.recovery.specs.declared.kept_at.KeptAt.{KeptAt}

abbrev pub epochs_of : List SnapshotParts → List ℕ
epochs_of cuts = map (λ s. s.epoch) cuts

abbrev pub kept_epochs : List KeptAt → List ℕ
kept_epochs kept = map (λ k. k.epoch) kept

-- the file opens as one of these snapshots, of that epoch or a later one
abbrev pub OpensFrom : Starts → List ℕ → ℕ → List SnapshotParts → List ℕ → Type 0
OpensFrom shape digest epoch cuts c = (s : SnapshotParts) × Contains cuts s × (epoch ≤ s.epoch) × (file_state shape digest c ≡ last s)

-- The file opens as the one with which the run began, or as one of these snapshots. It is no longer than that one was or has to be.
pub record EntryOrCut (shape : Starts) (digest : List ℕ) (cuts : List SnapshotParts) (file c : List ℕ) : Type 0 where
  pub state : (file_state shape digest c ≡ file_state shape digest file) ⊎ OpensFrom shape digest 0 cuts c
  pub size : length c ≤ max (length file) (file_length shape)

-- the moments rise, from after this one on
abbrev pub RiseAfter : ℕ → List KeptAt → Type 0
RiseAfter moment [] = Unit {0}
RiseAfter moment (k ∷ kept) = (moment < k.moment) × RiseAfter k.moment kept

-- what is kept are the first of what was sealed
abbrev pub AreFirst : List KeptAt → List SnapshotParts → Type 0
AreFirst kept cuts = (rest : List ℕ) × (epochs_of cuts ≡ kept_epochs kept ++ rest)

module _ {D : Type 0} (images : D → ℕ → List ℕ → Type 0) (moment : D → ℕ) (shape : Starts) (digest : List ℕ) where
  -- since the moment at which it was kept a crash leaves that snapshot, or a later one
  pub record IsKeptSince (cuts : List SnapshotParts) (now : D) (k : KeptAt) : Type 0 where
    pub passed : k.moment ≤ moment now
    pub since : (c : List ℕ) → images now k.moment c → OpensFrom shape digest k.epoch cuts c

  -- What a crash leaves in a run that began with this file, sealed these snapshots and kept the first of them: at any moment the file
  -- of the beginning or one of the snapshots, and since a snapshot was kept that one or a later one.
  pub record Survives (cuts : List SnapshotParts) (kept : List KeptAt) (file : List ℕ) (began now : D) : Type 0 where
    pub leaves : Leaves images moment began now (EntryOrCut shape digest cuts file)
    pub each : All (IsKeptSince cuts now) kept
    pub rising : RiseAfter (moment began) kept
    pub in_order : AreFirst kept cuts

  -- The same of each crash since the beginning, where nothing was pending then.
  pub record CrashesLeave (cuts : List SnapshotParts) (kept : List KeptAt) (file : List ℕ) (began now : D) : Type 0 where
    pub at_any_moment : (c : List ℕ) → images now (moment began) c → EntryOrCut shape digest cuts file c
    pub each : All (IsKeptSince cuts now) kept
    pub rising : RiseAfter (moment began) kept
    pub in_order : AreFirst kept cuts

module _ {D : Type 0} (content : D → Option (List ℕ)) (images : D → ℕ → List ℕ → Type 0) (moment : D → ℕ) (shape : Starts) (digest : List ℕ) where
  -- All that was sealed is kept, and the next may be: nothing is pending, and the store goes on from the file that stands there, which
  -- opens as the last one kept, or as that of the beginning.
  pub record MayKeep (cuts : List SnapshotParts) (kept : List KeptAt) (file : List ℕ) (epoch : ℕ) (began now : D) : Type 0 where
    pub survives : Survives images moment shape digest cuts kept file began now
    pub all : epochs_of cuts ≡ kept_epochs kept
    pub stands : List ℕ
    pub at_rest : AtRest content images moment now stands
    pub whole : IsKept shape digest epoch stands
    pub opens : EntryOrCut shape digest cuts file stands
    pub newest : All (λ k. (k.epoch ≤ epoch) × OpensFrom shape digest k.epoch cuts stands) kept

  -- whatever was sealed and kept before, one more was sealed and kept
  abbrev pub KeepsOne : SnapshotParts → ℕ → List KeptAt → List KeptAt → D → D → Type 0
  KeepsOne snapshot epoch kept more old new =
      (cuts : List SnapshotParts) (file : List ℕ) (began : D) → MayKeep cuts kept file epoch began old → MayKeep (cuts ++ snapshot ∷ []) more file snapshot.epoch began new

  -- whatever was sealed and kept before, one more was sealed, and a crash leaves it or what it might have left
  abbrev pub MayHaveKept : SnapshotParts → ℕ → List KeptAt → List KeptAt → D → D → Type 0
  MayHaveKept snapshot epoch kept more old new =
      (cuts : List SnapshotParts) (file : List ℕ) (began : D) → MayKeep cuts kept file epoch began old → Survives images moment shape digest (cuts ++ snapshot ∷ []) more file began new

-- ---- laws

module _ {D : Type 0} (content : D → Option (List ℕ)) (images : D → ℕ → List ℕ → Type 0) (moment : D → ℕ) where
  -- at the beginning nothing was sealed
  abbrev pub ClaimBegins : Type 0
  ClaimBegins = (shape : Starts) (digest file : List ℕ) (disk : D) → Survives images moment shape digest [] [] file disk disk

  -- it stays as more is sealed
  abbrev pub ClaimGrows : Type 0
  ClaimGrows =
      (shape : Starts) (digest file : List ℕ) (cuts more : List SnapshotParts) (kept : List KeptAt) (began now : D) →
      Survives images moment shape digest cuts kept file began now → Survives images moment shape digest (cuts ++ more) kept file began now

  -- A run that begins where an entry ended: where the file then opens as before, and is no longer than it was or has to be, the claim is of both.
  abbrev pub ClaimsJoin : Type 0
  ClaimsJoin =
      (shape : Starts) (digest file stands : List ℕ) (cuts : List SnapshotParts) (kept : List KeptAt) (began mid now : D) →
      Survives images moment shape digest [] [] file began mid → EntryOrCut shape digest [] file stands →
      Survives images moment shape digest cuts kept stands mid now → Survives images moment shape digest cuts kept file began now

  -- where nothing was pending at the beginning, the claim is of each crash since
  abbrev pub ClaimTells : Type 0
  ClaimTells =
      (shape : Starts) (digest file : List ℕ) (cuts : List SnapshotParts) (kept : List KeptAt) (began now : D) → AtRest content images moment began file →
      Survives images moment shape digest cuts kept file began now → CrashesLeave images moment shape digest cuts kept file began now

  -- A creation: each crash leaves what opens as the file did, which was nothing, and after it the first snapshot may be kept.
  abbrev pub ClaimCreated : (D → Bool) → Type 0
  ClaimCreated honest =
      (shape : Starts) (digest file : List ℕ) (began old new : D) → IsTrue (honest new) → AtRest content images moment old file → Survives images moment shape digest [] [] file began old →
      file_state shape digest file ≡ nothing → Leaves images moment old new (StaysNothing shape digest file) →
      Survives images moment shape digest [] [] file began new
      × ((n : List ℕ) → AtRest content images moment new n → file_state shape digest n ≡ nothing → IsKept shape digest 0 n → MayKeep content images moment shape digest [] [] file 0 began new)

  -- A put of the snapshot that was sealed last: whatever comes of it, each crash leaves this one or what it might have left; after Ok it is kept, and the next may be.
  abbrev pub ClaimPut : (D → Bool) → Type 0
  ClaimPut honest =
      (shape : Starts) (digest : List ℕ) (cuts : List SnapshotParts) (kept : List KeptAt) (snapshot : SnapshotParts) (file : List ℕ) (epoch : ℕ) (began old new : D) →
      IsTrue (honest new) → snapshot.epoch ≡ epoch + 1 → MayKeep content images moment shape digest cuts kept file epoch began old →
      ((stands : List ℕ) → AtRest content images moment old stands → IsKept shape digest epoch stands → Leaves images moment old new (KeepsOrTakes shape digest snapshot stands)) →
      Survives images moment shape digest (cuts ++ snapshot ∷ []) kept file began new
      × (moment old < moment new →
      ((stands : List ℕ) → AtRest content images moment old stands → IsKept shape digest epoch stands → (n : List ℕ) × AtRest content images moment new n × Takes shape digest snapshot n) →
      MayKeep content images moment shape digest (cuts ++ snapshot ∷ []) (kept ++ record { epoch = snapshot.epoch; moment = moment new } ∷ []) file snapshot.epoch began new)

  -- Where nothing was kept yet and a store goes on from the file that stands there, as after an open, the next may be kept.
  abbrev pub ClaimOpened : Type 0
  ClaimOpened =
      (shape : Starts) (digest file : List ℕ) (epoch : ℕ) (began now : D) → AtRest content images moment now file → IsKept shape digest epoch file → Survives images moment shape digest [] [] file began now →
      MayKeep content images moment shape digest [] [] file epoch began now
