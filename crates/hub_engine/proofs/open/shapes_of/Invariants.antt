-- The shapes so far.
use Rattle.std.proofs.Common.{◌≡◌, map, length, take}
use Rattle.std.specs.List.{AllByRecursion}
use Rattle.graph_core.specs.Parts.{place_count}
use Rattle.token_cut.specs.Shapes.{IsPartShape, sizes_in}
use Rattle.hub_engine.proofs.open.shapes_of.Given as goal

abbrev pub invariant-parts : goal.invariant-parts
invariant-parts l = record {
  shapes : AllByRecursion IsPartShape l.parts.items;
  sizes : sizes_in l.parts.items ≡ map (λ part. (place_count part, length part.mirrors)) (take l.part-index l.fragments);
}
