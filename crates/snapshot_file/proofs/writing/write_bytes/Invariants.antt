use Rattle.std.proofs.Common.{◌≡◌, ◌+◌, ◌++◌, take, vec_len, vec_capacity}
use Rattle.snapshot_file.proofs.writing.write_bytes.Given as goal

abbrev pub invariant-loop-byte : goal.invariant-loop-byte
invariant-loop-byte l = record {
  bytes : l.to.items ≡ l.initial.to.items ++ take l.byte-index l.bytes;
  long : vec_len l.to ≡ vec_len l.initial.to + l.byte-index;
  room : vec_capacity l.to ≡ vec_capacity l.initial.to;
}
