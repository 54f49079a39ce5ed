use Rattle.std.proofs.Common.{◌≡◌, ◌==◌, not, ◌&&◌, filter}
use Rattle.graph_core.specs.Fragments.{owner, numbers_below, is_read_in}
use Rattle.fragment_cut.proofs.piece.mirrors_by.Given as goal

abbrev pub invariant-loop-vertex : goal.invariant-loop-vertex
invariant-loop-vertex l = l.mirrors.items ≡ filter (λ v. not (owner l.job v == l.fragment) && is_read_in l.job l.fragment v) (numbers_below l.vertex)
