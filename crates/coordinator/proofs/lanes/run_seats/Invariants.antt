use Rattle.std.proofs.Common.{◌≡◌, ◌+◌, ◌≤◌, length, vec_len, vec_capacity}
use Rattle.noted_lock.specs.Sights.{lock_id}
use Rattle.coordinator.specs.Seats.{AreSeatsOfRun, AreSlots}
use Rattle.coordinator.proofs.lanes.run_seats.Given as goal

abbrev pub invariant-out : goal.invariant-out
invariant-out g l = record {
  seats : AreSeatsOfRun (lock_id l.lock) l.job l.seats.items;
  slots : AreSlots (lock_id l.lock) l.job l.slots.items;
  count : length l.seats.items + length l.slots.items ≡ l.job.settings.lanes;
  room : l.job.settings.lanes + 1 ≤ vec_capacity l.seats;
  slot_room : l.job.settings.lanes ≤ vec_capacity l.slots;
}

abbrev pub decreases-out : goal.decreases-out
decreases-out g l = vec_len l.seats

abbrev pub invariant-back : goal.invariant-back
invariant-back g l = record {
  seats : AreSeatsOfRun (lock_id l.lock) l.job l.seats.items;
  slots : AreSlots (lock_id l.lock) l.job l.slots.items;
  count : length l.seats.items + length l.slots.items ≡ l.job.settings.lanes;
  room : l.job.settings.lanes + 1 ≤ vec_capacity l.seats;
}

abbrev pub decreases-back : goal.decreases-back
decreases-back g l = vec_len l.slots
