use Rattle.std.proofs.Common.{take}
use Rattle.pie_sim.specs.SimJobs.{AreTargets}
use Rattle.pie_sim.proofs.nodes.targets_of.Given as goal

-- the targets of the links so far
abbrev pub invariant-links : goal.invariant-links
invariant-links l = AreTargets l.targets.items (take l.link-index l.links)
