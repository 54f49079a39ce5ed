use Rattle.std.proofs.Common.{◌≡◌, map, take}
use Rattle.fragment_cut.specs.Filing.{reading_of, by_source}
use Rattle.fragment_cut.proofs.edge_rows.read_targets.Given as goal

abbrev pub invariant-loop-edge : goal.invariant-loop-edge
invariant-loop-edge l = l.row.items ≡ map (λ e. reading_of (by_source e)) (take l.edge-index l.edges)
