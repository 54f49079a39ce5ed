use Rattle.pie_dist.specs.NearHeaps.{IsHeap}
use Rattle.pie_dist.proofs.heap_tests.lent_rows_hold_a_heap.Given as goal

-- the rows hold a heap of three places
abbrev pub invariant-loop-nearest : goal.invariant-loop-nearest
invariant-loop-nearest g l = IsHeap 3 l.rows
