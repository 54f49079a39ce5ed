use Rattle.std.proofs.Common.{◌≡◌, ◌<◌, ℕ, length, List, Option, subst, sym}
use Rattle.pie_dist.proofs.Trees.{length-heap}
use Rattle.pie_dist.proofs.heap.NearHeap.lower.Goals as goal

pub rows_lower-requires-clause-place : goal.rows_lower-requires-clause-place
rows_lower-requires-clause-place c =
    let h = c.self.inside in
    subst (λ n. c.args.place < n) (length-heap h.room h.rows.items) (subst (λ (keys : List (Option ℕ)). c.args.place < length keys) (sym c.self.view_is) c.requires)
