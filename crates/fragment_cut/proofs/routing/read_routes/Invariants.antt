use Rattle.std.proofs.Common.{◌≡◌, map, take}
use Rattle.fragment_cut.specs.Routing.{route_of}
use Rattle.fragment_cut.proofs.routing.read_routes.Given as goal

abbrev pub invariant-loop-reading : goal.invariant-loop-reading
invariant-loop-reading l = l.row.items ≡ map route_of (take l.reading-index l.readings)
