use Rattle.std.proofs.Common.{◌≡◌, ◌++◌, drop}
use Rattle.snapshot_file.specs.Fields.{numbers_in}
use Rattle.snapshot_file.specs.Rules.{allows_of}
use Rattle.snapshot_file.proofs.Steps.{Reads}
use Rattle.snapshot_file.proofs.reading.read_numbers.Given as goal

abbrev pub invariant-loop-i : goal.invariant-loop-i
invariant-loop-i l = record {
  reads : Reads (allows_of l.rule l.order) l.starts l.at l.bytes l.i;
  filled : l.into ≡ numbers_in l.i l.bytes ++ drop l.i l.fn.into;
}
