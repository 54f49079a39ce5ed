use Rattle.std.proofs.Common.{◌≡◌, ◌-◌, IsTrue, length}
use Rattle.grape_hub.specs.LanedHub.{IsLanedHub}
use Rattle.grape_hub.specs.Theorems.{IsCalm, event_bound}
use Rattle.coordinator.specs.Runs.{HasUsed}
use Rattle.coordinator.specs.Keeping.{digest_in, cuts_in, IsGoing, KeepsOn}
use Rattle.coordinator.proofs.alone.run_out.Given as goal

abbrev pub invariant-turns : goal.invariant-turns
invariant-turns g l = record {
  job : l.hub.hub.job ≡ l.fn.hub.hub.job;
  start : l.hub.hub.start ≡ l.fn.hub.hub.start;
  counters : l.hub.hub.counters ≡ g.P.Pie.counters_for l.fn.hub.hub.job;
  hub : IsLanedHub l.hub;
  calm : IsCalm l.hub.hub;
  going : IsGoing l.hub.hub l.keeper;
  faults : g.D.Disk.faults l.disk ≡ g.D.Disk.faults l.fn.disk;
  digest : digest_in l.keeper.store ≡ digest_in l.fn.keeper.store;
  used : HasUsed g.D.Disk.moment g.D.Disk.honest l.fn.hub.hub.job l.fn.disk l.disk;
  unkept : l.fn.hub.hub.job.settings.snapshot ≡ 0 → l.keeper.kept.items ≡ l.fn.keeper.kept.items;
  keeps : IsTrue (g.D.Disk.honest l.fn.disk) → KeepsOn g.D.Disk.content g.D.Disk.images g.D.Disk.moment l.fn.hub.hub.job (cuts_in l.fn.hub.hub) l.fn.keeper l.fn.disk (cuts_in l.hub.hub) l.keeper l.disk;
}

-- how many events may still come
abbrev pub decreases-turns : goal.decreases-turns
decreases-turns g l = event_bound l.hub.hub - length l.hub.hub.journal.events
