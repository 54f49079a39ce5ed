use Rattle.std.proofs.Common.{◌≡◌, ◌≤◌, take}
use Rattle.pie_sim.specs.Counting.{times_read}
use Rattle.pie_sim.proofs.counting.times_read.Given as goal

-- the readings so far are counted
abbrev pub invariant-row : goal.invariant-row
invariant-row l = record {
  times : l.times ≡ times_read (take l.reading-index l.reading-items) l.values l.node;
  few : l.times ≤ l.reading-index;
}
