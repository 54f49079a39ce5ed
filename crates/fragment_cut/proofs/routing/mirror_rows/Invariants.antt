use Rattle.std.proofs.Common.{◌≡◌, map}
use Rattle.graph_core.specs.Fragments.{numbers_below, mirrors_of}
use Rattle.fragment_cut.specs.Routing.{mirror_row}
use Rattle.fragment_cut.proofs.routing.mirror_rows.Given as goal

abbrev pub invariant-loop-fragment : goal.invariant-loop-fragment
invariant-loop-fragment l = l.rows ≡ map (λ k. mirror_row (mirrors_of l.job k)) (numbers_below l.fragment)
