-- What is found in the rest is found in all.
use Rattle.std.proofs.Common.{ℕ, drop}
use Rattle.std.specs.Prelude.{Option}
use Rattle.grape_event.specs.declared.repeat.Repeat.{Repeat}
use Rattle.grape_event.specs.Packing.{IsFound}
use Rattle.grape_event.proofs.repeat.find.Given as goal

abbrev pub invariant-repeats : goal.invariant-repeats
invariant-repeats l = (found : Option (Repeat × ℕ)) → IsFound (drop l.repeat-index l.repeats) l.rest found → IsFound l.repeats l.left found
