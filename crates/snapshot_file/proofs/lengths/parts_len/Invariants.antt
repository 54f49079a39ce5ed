use Rattle.std.proofs.Common.{◌≡◌, ◌+◌, drop}
use Rattle.snapshot_file.specs.Lengths.{parts_length}
use Rattle.snapshot_file.proofs.lengths.parts_len.Given as goal

abbrev pub invariant-loop-part : goal.invariant-loop-part
invariant-loop-part l = l.len + parts_length (drop l.part-index l.parts) ≡ parts_length l.parts
