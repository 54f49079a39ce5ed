use Rattle.std.proofs.Common.{◌≤◌, drop}
use Rattle.snapshot_file.specs.Bodies.{number_bytes}
use Rattle.snapshot_file.proofs.Cutting.{Going}
use Rattle.snapshot_file.proofs.pieces.put_numbers.Given as goal

abbrev pub invariant-loop-i : goal.invariant-loop-i
invariant-loop-i l = record {
  going : Going (number_bytes l.numbers) (number_bytes (drop l.i l.numbers)) l.fn.skip l.within l.fn.to l.to l.done;
  within : l.within ≤ 8;
}
