use Rattle.token_cut.specs.Shapes.{HaveShape}
use Rattle.snapshot_file.specs.Examples.{six_vertices}
use Rattle.snapshot_file.proofs.tests.feed_marked.Given as goal

abbrev pub invariant-loop-piece : goal.invariant-loop-piece
invariant-loop-piece l = record {
  next : (goal.iterator-loop-piece).can_next l.piece-iterator;
  finite : (goal.iterator-loop-piece).is_finite l.piece-iterator;
  same_shape : HaveShape six_vertices.parts l.snapshot.parts;
}
