use Rattle.std.proofs.Common.{◌≡◌, take}
use Rattle.pie_lowering.specs.Lowering.{with_mirrors}
use Rattle.pie_dist.proofs.plain.meet_mirrors.Given as goal

-- the mirrors so far are lowered by the hand
abbrev pub invariant-hand : goal.invariant-hand
invariant-hand l = l.local ≡ with_mirrors l.part l.initial.local (take l.mirror l.hand.values)
