-- A sealed snapshot is of a cut of the hub's run, and may be resumed.
use Rattle.hub_engine.specs.States.{machine}
use Rattle.grape_hub.specs.Theorems.{CutsAreConsistent, SealedMayBeResumed}
use Rattle.legal_journal.proofs.Sealing.{sealed_are_in_form, sealed_are_fit}
use Rattle.legal_journal.proofs.Sealing as sealing
use Rattle.hub_engine.proofs.Formed.{sound}

pub cuts_are_consistent : CutsAreConsistent
cuts_are_consistent h epoch hub sealed = sealing.cuts_are_consistent (machine h) h.start h.journal.events epoch hub.legal sealed

pub sealed_may_be_resumed : SealedMayBeResumed
sealed_may_be_resumed h epoch snapshot hub sealed is = (
  sealed_are_in_form (machine h) h.start h.journal.events epoch snapshot (sound h hub) hub.start hub.legal sealed is,
  λ g greatest fit. sealed_are_fit (machine h) g h.start h.journal.events epoch snapshot (sound h hub) greatest fit hub.legal sealed is,
)
