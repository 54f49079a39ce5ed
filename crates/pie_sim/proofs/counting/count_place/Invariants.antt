use Rattle.std.proofs.Common.{◌≡◌, ◌≢◌, ℕ, ◌<◌, length, slice_index, slice_index_or, []}
use Rattle.pie_sim.specs.Counting.{counter_at, times_read}
use Rattle.pie_sim.proofs.counting.count_place.Given as goal

-- the columns so far are counted
abbrev pub invariant-nodes : goal.invariant-nodes
invariant-nodes l = record {
  rest : l.local ≡ record l.initial.local { counters = l.local.counters };
  room : length l.local.counters ≡ length l.initial.local.counters;
  counts : (c : ℕ) → c < l.column → counter_at (length l.nodes) l.local.counters l.place c ≡ times_read (slice_index_or l.part.readings l.place []) l.initial.local.values (slice_index l.nodes c);
  others : (p c : ℕ) → p ≢ l.place → c < length l.nodes → counter_at (length l.nodes) l.local.counters p c ≡ counter_at (length l.nodes) l.initial.local.counters p c;
}
