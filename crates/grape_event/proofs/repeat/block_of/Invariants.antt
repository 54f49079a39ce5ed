use Rattle.std.proofs.Common.{◌<◌, ◌≤◌, ◌-◌, length, slice_index}
use Rattle.grape_event.proofs.repeat.block_of.Given as goal

abbrev pub invariant-halves : goal.invariant-halves
invariant-halves l = (l.low < l.high) × (l.high ≤ length l.starts) × (slice_index l.starts l.low ≤ l.place)

abbrev pub decreases-halves : goal.decreases-halves
decreases-halves l = l.high - l.low
