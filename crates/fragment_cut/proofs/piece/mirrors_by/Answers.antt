use Rattle.std.proofs.Common.{◌<◌, ◌==◌, ◌&&◌, not, ℕ, Bool, sym, ◌∙◌, arith}
use Rattle.graph_core.specs.Graphs.{count_of}
use Rattle.graph_core.specs.Fragments.{owner, is_read_in}
use Rattle.fragment_cut.proofs.Pieces.{owners_len, mirror_test, unread_test, own_test, taken, left}
use Rattle.fragment_cut.proofs.piece.mirrors_by.Goals as goal
use Rattle.fragment_cut.proofs.piece.mirrors_by.Goals.{then-owners-vertex+then-marks-vertex+in_ok-push, else-owners-vertex, else-owners-vertex-via-then-owners-vertex+else-marks-vertex, else-owners-vertex-via-else-owners-vertex}

pub bounds-owners-vertex : goal.bounds-owners-vertex
bounds-owners-vertex c = omega (arith, owners_len c.args.job.now c.args.owners.now c.requires.owners, c.count-vertex-end.ensures.count)

pub loop-vertex-preserved : goal.loop-vertex-preserved
loop-vertex-preserved c =
    let job = c.args.job.now in
    let i = c.args.fragment in
    let v = c.loop-vertex.vertex in
    let below : v < count_of job.graph = omega (arith, c.count-vertex-end.ensures.count) in
    let p : ℕ → Bool = λ u. not (owner job u == i) && is_read_in job i u in
    elim c.if-owners-vertex.branch [
      | then-owners-vertex+then-marks-vertex+in_ok-push w ↦ taken p v c.loop-vertex.mirrors.items c.if-owners-vertex.mirrors.items (mirror_test job c.args.owners.now c.requires.owners v i below w.if-owners-vertex.true (sym (c.requires.marks v below) ∙ w.if-marks-vertex.true)) c.loop-vertex.invariant (cc w.in_ok-push.ensures.items)
      | else-owners-vertex w ↦ elim w.else-owners-vertex.branch [
        | else-owners-vertex-via-then-owners-vertex+else-marks-vertex x ↦ left p v c.loop-vertex.mirrors.items c.if-owners-vertex.mirrors.items (unread_test job c.args.owners.now c.requires.owners v i (sym (c.requires.marks v below) ∙ x.if-marks-vertex.false)) c.loop-vertex.invariant (cc)
        | else-owners-vertex-via-else-owners-vertex x ↦ left p v c.loop-vertex.mirrors.items c.if-owners-vertex.mirrors.items (own_test job c.args.owners.now c.requires.owners v i below x.if-owners-vertex.false) c.loop-vertex.invariant (cc)
      ]
    ]
