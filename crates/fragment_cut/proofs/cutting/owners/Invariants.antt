use Rattle.std.proofs.Common.{◌≡◌, map}
use Rattle.graph_core.specs.Fragments.{owner, numbers_below}
use Rattle.fragment_cut.proofs.cutting.owners.Given as goal

abbrev pub invariant-loop-vertex : goal.invariant-loop-vertex
invariant-loop-vertex l = l.owners.items ≡ map (owner l.job) (numbers_below l.vertex)
