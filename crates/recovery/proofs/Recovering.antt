-- What an open answers, and the start that follows from it.
use Rattle.std.proofs.Common.{◌≡◌, ◌⊎◌, inl, inr, ⊎_elim, ℕ, List, [], Result, Ok, Err, IfOk, IfErr, OnOk, sym, subst}
use Rattle.token_cut.specs.Parts.{SnapshotParts}
use Rattle.token_cut.specs.Shapes.{Starts, fresh_snapshot}
use Rattle.snapshot_store.specs.State.{file_state}
use Rattle.snapshot_store.specs.State.FileState.{nothing}
use Rattle.snapshot_store.specs.Opening.{OpensAs}
use Rattle.snapshot_store.specs.declared.fault.StoreFault.{StoreFault}
use Rattle.snapshot_store.specs.declared.fault.StoreFault.TheVariants.{Disk, NoMemory}
use Rattle.snapshot_store.specs.declared.opened.Opened.{Opened}
use Rattle.recovery.specs.declared.entry.Entry.{Entry}
use Rattle.recovery.specs.Entries.{RecoversFrom}

-- what was opened, under another name
pub opens_as : (shape : Starts) (digest file : List ℕ) (o p : Opened) → o ≡ p → OpensAs shape digest file (Ok o) → OpensAs shape digest file (Ok p)
opens_as shape digest file o p e h = subst (λ (x : Opened). OpensAs shape digest file (Ok x)) e h

-- a file that opens as nothing is recovered from by the fresh start, unless the disk or memory fails
pub starts_over : (shape : Starts) (digest file : List ℕ) (r : Result Entry StoreFault) → file_state shape digest file ≡ nothing
    → IfOk r (λ entry. entry.start ≡ fresh_snapshot shape) → IfErr r (λ e. (e ≡ Disk) ⊎ (e ≡ NoMemory)) → RecoversFrom shape digest file r
starts_over shape digest file (Ok entry) is start no_other = inr (is, start)
starts_over shape digest file (Err e) is start no_other =
    ⊎_elim (λ d. subst (λ (f : StoreFault). RecoversFrom shape digest file (Err f)) (sym d) tt) (λ m. subst (λ (f : StoreFault). RecoversFrom shape digest file (Err f)) (sym m) tt) no_other

-- what is said of the first epoch after a fresh start is said of that after the start
pub of_start : (shape : Starts) (P : ℕ → Type 0) (r : Result Entry StoreFault) → IfOk r (λ entry. entry.start ≡ fresh_snapshot shape) → OnOk r (P 0) → IfOk r (λ entry. P entry.start.epoch)
of_start shape P (Ok entry) start p = subst (λ (s : SnapshotParts). P s.epoch) (sym start) p
of_start shape P (Err e) start p = tt

pub on_ok : {T E : Type 0} {P Q : Type 0} (r : Result T E) → OnOk r P → (P → Q) → OnOk r Q
on_ok (Ok x) p f = f p
on_ok (Err e) p f = tt
