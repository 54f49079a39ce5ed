use Rattle.std.proofs.Common.{◌≡◌, ◌+◌, ◌++◌, length, drop, vec_len, vec_capacity}
use Rattle.snapshot_file.specs.Bodies.{number_bytes}
use Rattle.snapshot_file.proofs.writing.write_numbers.Given as goal

abbrev pub invariant-loop-number : goal.invariant-loop-number
invariant-loop-number l = record {
  bytes : l.to.items ++ number_bytes (drop l.number-index l.numbers) ≡ l.initial.to.items ++ number_bytes l.numbers;
  long : vec_len l.to + length (number_bytes (drop l.number-index l.numbers)) ≡ vec_len l.initial.to + length (number_bytes l.numbers);
  room : vec_capacity l.to ≡ vec_capacity l.initial.to;
}
