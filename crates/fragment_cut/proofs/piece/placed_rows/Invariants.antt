use Rattle.std.proofs.Common.{◌≡◌, length, map, take, slice_index_or, []}
use Rattle.fragment_cut.specs.Filing.{placed_row}
use Rattle.fragment_cut.proofs.piece.placed_rows.Given as goal

abbrev pub invariant-loop-vertex : goal.invariant-loop-vertex
invariant-loop-vertex l = l.made ≡ map (λ v. placed_row l.places (length l.vertices) (slice_index_or l.reads v [])) (take l.vertex-index l.vertices)
