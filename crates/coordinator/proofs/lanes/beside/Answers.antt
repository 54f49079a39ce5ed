use Rattle.std.proofs.Common.{rules, ◌≡◌, subst, List, Option}
use Rattle.noted_lock.specs.declared.seat.LockSeat.{LockSeat}
use Rattle.noted_lock.specs.Sights.{lock_id}
use Rattle.coordinator.specs.Seats.{AreSlots}
use Rattle.coordinator.proofs.lanes.beside.Goals as goal

pub returns-clause-slots : goal.returns-clause-slots
returns-clause-slots g c =
    let same : c.join_mut-leave.new.f.2.now.items ≡ c.slots-2-1.given.0.items = search rules in
    subst (λ (os : List (Option LockSeat)). AreSlots (lock_id c.args.lock.now) c.args.job.now os) same c.join_mut-leave.ensures.0.met.1.0
