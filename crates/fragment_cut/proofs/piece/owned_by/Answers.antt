use Rattle.std.proofs.Common.{◌<◌, ◌==◌, ℕ, Bool, arith}
use Rattle.graph_core.specs.Graphs.{count_of}
use Rattle.graph_core.specs.Fragments.{owner}
use Rattle.fragment_cut.proofs.Pieces.{owners_len, owned_test, foreign_test, taken, left}
use Rattle.fragment_cut.proofs.piece.owned_by.Goals as goal
use Rattle.fragment_cut.proofs.piece.owned_by.Goals.{then-owners-vertex+in_ok-push, else-owners-vertex}

pub bounds-owners-vertex : goal.bounds-owners-vertex
bounds-owners-vertex c = omega (arith, owners_len c.args.job.now c.args.owners.now c.requires, c.count-vertex-end.ensures.count)

pub loop-vertex-preserved : goal.loop-vertex-preserved
loop-vertex-preserved c =
    let job = c.args.job.now in
    let i = c.args.fragment in
    let v = c.loop-vertex.vertex in
    let below : v < count_of job.graph = omega (arith, c.count-vertex-end.ensures.count) in
    let p : ℕ → Bool = λ u. owner job u == i in
    elim c.if-owners-vertex.branch [
      | then-owners-vertex+in_ok-push w ↦ taken p v c.loop-vertex.owned.items c.if-owners-vertex.owned.items (owned_test job c.args.owners.now c.requires v i below w.if-owners-vertex.true) c.loop-vertex.invariant (cc w.in_ok-push.ensures.items)
      | else-owners-vertex w ↦ left p v c.loop-vertex.owned.items c.if-owners-vertex.owned.items (foreign_test job c.args.owners.now c.requires v i below w.if-owners-vertex.false) c.loop-vertex.invariant (cc)
    ]
