use Rattle.delay_stretch.specs.Arrivals.{IsNotBelowLast}
use Rattle.delay_stretch.proofs.tests.pulse_of.Given as goal

abbrev pub invariant-loop-clock : goal.invariant-loop-clock
invariant-loop-clock l = IsNotBelowLast l.last l.pulse
