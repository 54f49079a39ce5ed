use Rattle.std.proofs.Common.{◌≡◌, ℕ, ◌<◌, length, slice_index, slice_index_or, []}
use Rattle.pie_sim.specs.Counting.{counter_at, times_read}
use Rattle.pie_sim.proofs.counting.count.Given as goal

-- the places so far are counted
abbrev pub invariant-places : goal.invariant-places
invariant-places l = record {
  rest : l.local ≡ record l.initial.local { counters = l.local.counters };
  room : length l.local.counters ≡ length l.initial.local.counters;
  counts : (p c : ℕ) → p < l.place → c < length l.nodes → counter_at (length l.nodes) l.local.counters p c ≡ times_read (slice_index_or l.part.readings p []) l.initial.local.values (slice_index l.nodes c);
}
