use Rattle.std.proofs.Common.{◌≡◌, ℕ, List, length, take}
use Rattle.pie_sim.specs.Falling.{IsSettled}
use Rattle.pie_sim.proofs.Mirrors.{AreMet}
use Rattle.pie_sim.proofs.lowering.lower_mirrors.Given as goal

-- the mirrors so far are lowered by the hand
abbrev pub invariant-hand : goal.invariant-hand
invariant-hand l = record {
  met : AreMet (length l.part.owned) l.hand.values l.initial.local.values l.local.values (take l.mirror-index l.mirror-items);
  before : l.local.before ≡ l.initial.local.before;
  counters : l.local.counters ≡ l.initial.local.counters;
  settled : (targets : List ℕ) → IsSettled targets l.part l.initial.local → IsSettled targets l.part l.local;
}
