-- What a fault of a store reads as.
use Rattle.std.specs.Prelude.{ℕ, List, ◌++◌, codes, decimal}
use Rattle.snapshot_store.specs.declared.fault.StoreFault.{StoreFault}
use Rattle.snapshot_store.specs.declared.fault.StoreFault.TheVariants.{Disk, Other, Damaged, NoMemory}

abbrev pub fault_text : StoreFault → List ℕ
fault_text Disk = codes "the disk failed"
fault_text (Other kept here) = codes "the state file is another input's"
fault_text (Damaged place) = codes "the state file is damaged at " ++ decimal place
fault_text NoMemory = codes "out of memory"
