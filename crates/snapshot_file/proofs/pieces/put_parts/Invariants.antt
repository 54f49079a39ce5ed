use Rattle.std.proofs.Common.{drop}
use Rattle.std.specs.List.{flat_map}
use Rattle.snapshot_file.specs.Bodies.{part_bytes}
use Rattle.snapshot_file.proofs.Cutting.{Going}
use Rattle.snapshot_file.proofs.pieces.put_parts.Given as goal

abbrev pub invariant-loop-i : goal.invariant-loop-i
invariant-loop-i l = Going (flat_map part_bytes l.parts) (flat_map part_bytes (drop l.i l.parts)) l.fn.skip l.skip l.fn.to l.to l.done
