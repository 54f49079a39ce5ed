use Rattle.std.proofs.Common.{◌≡◌, map, take}
use Rattle.token_cut.specs.Shapes.{fresh_part}
use Rattle.token_cut.proofs.snapshot.Snapshot.fresh.Given as goal

abbrev pub invariant-loop-starts : goal.invariant-loop-starts
invariant-loop-starts l = l.parts.items ≡ map fresh_part (take l.starts-index l.starts-items)
