use Rattle.std.proofs.Common.{◌≡◌, ◌*◌, length}
use Rattle.snapshot_store.proofs.body.repeated.Given as goal

abbrev pub invariant-loop-turn : goal.invariant-loop-turn
invariant-loop-turn l = length l.bytes.items ≡ l._turn * length l.block
