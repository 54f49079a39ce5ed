use Rattle.std.proofs.Common.{◌≡◌, length}
use Rattle.pie_dist.proofs.heap_tests.the_nearest_come_off_first.Given as goal

-- the heap has three places
abbrev pub invariant-loop-place : goal.invariant-loop-place
invariant-loop-place g l = length l.heap ≡ 3
