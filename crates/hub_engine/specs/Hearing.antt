-- Which events a probe may be told of.
use Rattle.std.specs.Prelude.{◌≡◌, ◌<◌, false, IsTrue, ⊤}
use Rattle.grape_event.specs.declared.event.Event.{Event}
use Rattle.grape_event.specs.declared.event.Event.TheVariants.{Take, Flag, Ask, Ack, Nack}
use Rattle.stop_probe.specs.ProbeValues.{ProbeValues}
use Rattle.stop_probe.specs.Probe.{may_flag, may_ask, may_answer, took_since_ask}

abbrev pub MayHear : Event → ProbeValues → Type 0
MayHear (Take i k) p = i < p.workers
MayHear (Flag i) p = IsTrue (may_flag i p)
MayHear Ask p = IsTrue (may_ask p)
MayHear (Ack i) p = IsTrue (may_answer i p) × (took_since_ask i p ≡ false)
MayHear (Nack i) p = IsTrue (may_answer i p)
MayHear _ p = ⊤
