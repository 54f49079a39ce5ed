use Rattle.pie_lowering.specs.Lowering.{HasFallen, IsSettled, AreAtMostFar, with_mirrors}
use Rattle.pie_lowering.proofs.Mirrors.{shown}
use Rattle.pie_lowering.proofs.lowering.lower_mirrors.Given as goal

-- the mirrors so far are lowered by the hand
abbrev pub invariant-hand : goal.invariant-hand
invariant-hand g l = record {
  fallen : HasFallen g.C.Cost.cost_of l.part (with_mirrors l.part l.initial.local (shown l.values l.mirror-items l.mirror-index)) l.local;
  at_most_far : AreAtMostFar l.local.values;
  settled : IsSettled g.C.Cost.cost_of l.part l.initial.local → IsSettled g.C.Cost.cost_of l.part l.local;
}
