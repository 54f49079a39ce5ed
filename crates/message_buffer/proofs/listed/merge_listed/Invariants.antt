use Rattle.std.proofs.Common.{◌≡◌, ◌<◌, ◌^◌, ℕ, slice_index, All}
use Rattle.value_order.specs.Order.{meet_of}
use Rattle.message_buffer.specs.Listed.{AreListedFrom}
use Rattle.message_buffer.proofs.listed.merge_listed.Given as goal

-- the other values that are left are ahead in the list, and the meets are as they were
abbrev pub invariant-merge : goal.invariant-merge
invariant-merge l = record {
  ahead : AreListedFrom l.others l.mirrors l.mirror-index;
  fit : All (λ v. v < 2 ^ 64) l.values;
  met : (q : ℕ) → meet_of l.order (slice_index l.values q) (slice_index l.others q) ≡ meet_of l.order (slice_index l.fn.values q) (slice_index l.fn.others q);
}
