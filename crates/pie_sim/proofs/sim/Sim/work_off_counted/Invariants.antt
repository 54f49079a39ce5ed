use Rattle.pie_sim.specs.Falling.{HasFallen, IsSettled, work_left}
use Rattle.pie_sim.specs.Counting.{AreCounts}
use Rattle.pie_sim.proofs.sim.Sim.work_off_counted.Given as goal

abbrev pub invariant-work : goal.invariant-work
invariant-work l = record {
  fallen : HasFallen l.self.targets l.part l.initial.local l.local;
  settled : IsSettled l.self.targets l.part l.initial.local → IsSettled l.self.targets l.part l.local;
  counts : AreCounts l.self.nodes l.part l.local;
}

abbrev pub decreases-work : goal.decreases-work
decreases-work l = work_left l.local
