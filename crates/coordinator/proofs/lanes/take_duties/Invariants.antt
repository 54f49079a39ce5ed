use Rattle.std.proofs.Common.{◌≡◌}
use Rattle.noted_lock.specs.Sights.{lock_id, seat_note}
use Rattle.grape_hub.specs.Notes.{ground_in}
use Rattle.coordinator.specs.Runs.{HasUsed}
use Rattle.coordinator.specs.Keeping.{digest_in}
use Rattle.coordinator.specs.Leaving.{LeavesNote}
use Rattle.coordinator.specs.declared.leave.Leave.TheVariants.{AllKept}
use Rattle.coordinator.specs.Seats.{IsSeatOfRun}
use Rattle.coordinator.proofs.lanes.take_duties.Given as goal

abbrev pub invariant-turns : goal.invariant-turns
invariant-turns g l = record {
  own : IsSeatOfRun (lock_id l.lock) l.job l.job.settings.lanes l.own;
  first : IsSeatOfRun (lock_id l.lock) l.job 0 l.first;
  ground : ground_in (seat_note l.own) ≡ ground_in (seat_note l.fn.own);
  used : HasUsed g.D.Disk.moment g.D.Disk.honest l.job l.fn.disk l.disk;
  digest : digest_in l.keeper.store ≡ digest_in l.fn.keeper.store;
  leaves : LeavesNote g.D.Disk.content g.D.Disk.images g.D.Disk.moment g.D.Disk.faults g.D.Disk.honest l.job l.fn.keeper l.fn.disk AllKept (seat_note l.own) l.keeper l.disk;
}
