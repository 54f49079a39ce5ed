-- What an open answers.
use Rattle.std.specs.Prelude.{◌≡◌, ◌≢◌, ℕ, ◌%◌, Bool, true, false, List, Option, Some, None, Result, Ok, Err}
use Rattle.token_cut.specs.Shapes.{Starts}
use Rattle.token_cut.specs.Form.{IsInSlotForm}
use Rattle.token_cut.specs.Parts.{SnapshotParts}
use Rattle.snapshot_store.specs.State.{FileState, file_state, IsKept}
use Rattle.snapshot_store.specs.State.FileState.{nothing, other, damaged, last}
use Rattle.snapshot_store.specs.declared.fault.StoreFault.{StoreFault}
use Rattle.snapshot_store.specs.declared.fault.StoreFault.TheVariants.{Disk, Other, Damaged, NoMemory}
use Rattle.snapshot_store.specs.declared.opened.Opened.{Opened}
use Rattle.snapshot_store.specs.declared.opened.Opened.TheVariants.{Nothing, Last}

-- the answer is what the file stands for; a fault of the disk and want of memory say nothing of it
abbrev pub OpensAs : Starts → List ℕ → List ℕ → Result Opened StoreFault → Type 0
OpensAs shape digest file (Ok Nothing) = file_state shape digest file ≡ nothing
OpensAs shape digest file (Ok (Last store snapshot)) =
    (file_state shape digest file ≡ last snapshot) × IsKept shape digest snapshot.epoch file × (store.digest ≡ digest) × (store.last ≡ snapshot.epoch)
OpensAs shape digest file (Err (Other kept here)) = (file_state shape digest file ≡ other kept) × (here ≡ digest)
OpensAs shape digest file (Err (Damaged place)) = file_state shape digest file ≡ damaged place
OpensAs shape digest file (Err Disk) = Unit {0}
OpensAs shape digest file (Err NoMemory) = Unit {0}

-- a file of another input keeps another digest than the one that was asked for
abbrev pub NamesBoth : List ℕ → Result Opened StoreFault → Type 0
NamesBoth digest (Err (Other kept here)) = (here ≡ digest) × (kept ≢ digest)
NamesBoth digest _ = Unit {0}

-- what was opened is in the form of its slot
abbrev pub IsFormed : Starts → Result Opened StoreFault → Type 0
IsFormed shape (Ok (Last store snapshot)) = IsInSlotForm shape (snapshot.epoch % 2) snapshot
IsFormed shape _ = Unit {0}

-- ---- for the steps of an open

-- what a test of the header tells: true where the slots decide
abbrev pub HeaderSays : List ℕ → Option FileState → Result Bool StoreFault → Type 0
HeaderSays digest says (Ok true) = says ≡ None
HeaderSays digest says (Ok false) = says ≡ Some nothing
HeaderSays digest says (Err (Other kept here)) = (says ≡ Some (other kept)) × (here ≡ digest) × (kept ≢ digest)
HeaderSays digest says (Err (Damaged place)) = says ≡ Some (damaged place)
HeaderSays digest says (Err Disk) = ⊥
HeaderSays digest says (Err NoMemory) = Unit {0}

-- what reading a slot tells
abbrev pub SlotSays : FileState → Result SnapshotParts StoreFault → Type 0
SlotSays state (Ok snapshot) = state ≡ last snapshot
SlotSays state (Err (Damaged place)) = state ≡ damaged place
SlotSays state (Err Disk) = Unit {0}
SlotSays state (Err NoMemory) = Unit {0}
SlotSays state (Err _) = ⊥

-- what reading both tells
abbrev pub SlotsSay : FileState → Result (Option SnapshotParts) StoreFault → Type 0
SlotsSay state (Ok None) = state ≡ nothing
SlotsSay state (Ok (Some snapshot)) = state ≡ last snapshot
SlotsSay state (Err (Damaged place)) = state ≡ damaged place
SlotsSay state (Err Disk) = Unit {0}
SlotsSay state (Err NoMemory) = Unit {0}
SlotsSay state (Err _) = ⊥
