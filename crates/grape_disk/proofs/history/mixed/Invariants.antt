use Rattle.std.proofs.Common.{◌≡◌, ◌≤◌, map, vec_len, vec_capacity}
use Rattle.std.specs.List.{range_with_len}
use Rattle.grape_disk.specs.Picks.{mixed_byte}
use Rattle.grape_disk.proofs.history.mixed.Given as goal

abbrev pub invariant-loop-place : goal.invariant-loop-place
invariant-loop-place l = record {
  made : l.image.items ≡ map (mixed_byte l.number l.pending l.stable) (range_with_len 0 l.place);
  count : vec_len l.image ≡ l.place;
  room : l.count ≤ vec_capacity l.image;
}
