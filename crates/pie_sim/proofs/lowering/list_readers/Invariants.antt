use Rattle.std.proofs.Common.{◌≡◌, ℕ, ◌<◌, true, length, slice_index_or}
use Rattle.graph_core.specs.declared.fragment.Reading.{Reading}
use Rattle.pie_core.specs.PlaceSets.{waits}
use Rattle.pie_sim.proofs.lowering.list_readers.Given as goal

-- the readers so far wait
abbrev pub invariant-row : goal.invariant-row
invariant-row l = record {
  rest : l.local ≡ record l.initial.local { waiting = l.local.waiting };
  on : (q : ℕ) → waits l.initial.local.waiting q ≡ true → waits l.local.waiting q ≡ true;
  so_far : (k : ℕ) (d : Reading) → k < l.reader-index → waits l.local.waiting (slice_index_or l.reader-items k d).place ≡ true;
  known : length l.local.waiting ≡ length l.initial.local.waiting;
}
