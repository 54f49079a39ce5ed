use Rattle.pie_sim.proofs.Bits.{AreKept}
use Rattle.pie_sim.proofs.sim.Sim.kept.Given as goal

-- the bits that stay or are still to be looked at
abbrev pub invariant-nodes : goal.invariant-nodes
invariant-nodes l = AreKept l.self.targets l.value l.read l.rest l.kept

abbrev pub decreases-nodes : goal.decreases-nodes
decreases-nodes l = l.rest
