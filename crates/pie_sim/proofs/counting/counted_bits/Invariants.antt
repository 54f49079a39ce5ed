use Rattle.pie_sim.proofs.Fallen.{AreBitsBefore}
use Rattle.pie_sim.proofs.counting.counted_bits.Given as goal

-- the bits of the columns so far whose counters aren't 0
abbrev pub invariant-nodes : goal.invariant-nodes
invariant-nodes l = AreBitsBefore l.nodes l.local.counters l.place l.column l.bits
