use Rattle.std.proofs.Common.{◌≡◌, ◌+◌, ◌++◌, length, drop, vec_len, vec_capacity}
use Rattle.std.specs.List.{flat_map}
use Rattle.snapshot_file.specs.Bodies.{part_bytes}
use Rattle.snapshot_file.proofs.writing.encode.Given as goal

abbrev pub invariant-loop-part : goal.invariant-loop-part
invariant-loop-part l = record {
  bytes : l.to.items ++ flat_map part_bytes (drop l.part-index l.part-items) ≡ l.initial.to.items ++ flat_map part_bytes l.part-items;
  long : vec_len l.to + length (flat_map part_bytes (drop l.part-index l.part-items)) ≡ vec_len l.initial.to + length (flat_map part_bytes l.part-items);
  room : vec_capacity l.to ≡ vec_capacity l.initial.to;
}
