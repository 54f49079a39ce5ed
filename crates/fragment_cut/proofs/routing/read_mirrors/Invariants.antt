use Rattle.std.proofs.Common.{◌≡◌, map}
use Rattle.graph_core.specs.Fragments.{numbers_below}
use Rattle.fragment_cut.specs.Routing.{mirror_reading}
use Rattle.fragment_cut.proofs.routing.read_mirrors.Given as goal

abbrev pub invariant-loop-mirror : goal.invariant-loop-mirror
invariant-loop-mirror l = l.row.items ≡ map (mirror_reading l.mirrors) (numbers_below l.mirror)
