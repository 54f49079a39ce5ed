use Rattle.std.proofs.Common.{◌≡◌, map, take}
use Rattle.fragment_cut.specs.Routing.{routes_in}
use Rattle.fragment_cut.proofs.routing.routes_by.Given as goal

abbrev pub invariant-loop-vertex : goal.invariant-loop-vertex
invariant-loop-vertex l = l.routes ≡ map (routes_in l.table) (take l.vertex-index l.vertices)
