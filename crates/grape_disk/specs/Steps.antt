-- What a step of the record did.
use Rattle.grape_disk.specs.Platters.{Did, wrote, synced}
use Rattle.grape_disk.specs.declared.history.Deed.{Deed}
use Rattle.grape_disk.specs.declared.history.Deed.TheVariants.{Wrote, Synced}

abbrev pub did_of : Deed → Did
did_of (Wrote at bytes) = wrote at bytes.items
did_of Synced = synced
