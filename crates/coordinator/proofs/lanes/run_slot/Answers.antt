use Rattle.std.proofs.Common.{rules, ◌≡◌, subst, sym, ◌∙◌, Option}
use Rattle.noted_lock.specs.declared.seat.LockSeat.{LockSeat}
use Rattle.noted_lock.specs.Sights.{lock_id}
use Rattle.coordinator.specs.Seats.{HoldsSeat}
use Rattle.coordinator.proofs.lanes.run_slot.Goals as goal

pub lane-seat-requires-clause-job : goal.lane-seat-requires-clause-job
lane-seat-requires-clause-job g c =
    let taken : c.take.result ≡ c.args.slot.now = search rules in
    let seat = subst (λ (o : Option LockSeat). HoldsSeat (lock_id c.args.lock.now) c.args.job.now c.args.number o) (sym taken ∙ c.in-Some.is) c.requires.slot in
    (c.args.job.now, seat.ground.0, seat.ground.1, c.requires.fragments, c.requires.program, c.requires.lane)
