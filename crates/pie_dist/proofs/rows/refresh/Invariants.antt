-- The nodes are right but those above the one that was written last.
use Rattle.std.proofs.Common.{◌≡◌, ◌≤◌, ◌-◌, ℕ, slice_index}
use Rattle.pie_dist.specs.NearHeaps.{HasLeaf}
use Rattle.pie_dist.proofs.rows.refresh.Given as goal

abbrev pub invariant-nodes : goal.invariant-nodes
invariant-nodes l = record {
  leaf : HasLeaf l.room l.index l.rows;
  kept : (j : ℕ) → l.room ≤ j → slice_index l.rows j ≡ slice_index l.fn.rows j;
}

abbrev pub decreases-nodes : goal.decreases-nodes
decreases-nodes l = l.index - 1
