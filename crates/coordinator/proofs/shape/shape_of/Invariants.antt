-- The start values of the fragments so far.
use Rattle.std.proofs.Common.{◌≡◌, map, take}
use Rattle.coordinator.specs.Shapes.{starts_in}
use Rattle.coordinator.proofs.shape.shape_of.Given as goal

abbrev pub invariant-parts : goal.invariant-parts
invariant-parts l = l.parts.items ≡ map (starts_in l.job) (take l.part-index l.fragments)
