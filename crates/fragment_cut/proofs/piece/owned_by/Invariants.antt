use Rattle.std.proofs.Common.{◌≡◌, ◌==◌, filter}
use Rattle.graph_core.specs.Fragments.{owner, numbers_below}
use Rattle.fragment_cut.proofs.piece.owned_by.Given as goal

abbrev pub invariant-loop-vertex : goal.invariant-loop-vertex
invariant-loop-vertex l = l.owned.items ≡ filter (λ v. owner l.job v == l.fragment) (numbers_below l.vertex)
