use Rattle.std.proofs.Common.{◌≡◌, take}
use Rattle.fragment_cut.proofs.reads.copy_of.Given as goal

abbrev pub invariant-loop-row : goal.invariant-loop-row
invariant-loop-row l = l.copy ≡ take l.row l.table
