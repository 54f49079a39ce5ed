use Rattle.std.proofs.Common.{◌≡◌, ◌<◌, ℕ, slice_index}
use Rattle.pie_dist.proofs.rows.rows_clear.Given as goal

abbrev pub invariant-nodes : goal.invariant-nodes
invariant-nodes l = (j : ℕ) → j < l.index → slice_index l.rows j ≡ 0
