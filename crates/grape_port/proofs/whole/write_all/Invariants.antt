use Rattle.std.proofs.Common.{◌-◌, ◌≤◌, length, take}
use Rattle.grape_port.specs.Ports.{Appends}
use Rattle.grape_port.proofs.whole.write_all.Given as goal

abbrev pub invariant-pieces : goal.invariant-pieces
invariant-pieces g l = (l.done ≤ length l.bytes) × Appends (g.O.Sink.written l.initial.out) (take l.done l.bytes) (g.O.Sink.written l.out) × (g.O.Sink.faults l.initial.out ≤ g.O.Sink.faults l.out)

abbrev pub decreases-pieces : goal.decreases-pieces
decreases-pieces g l = length l.bytes - l.done
