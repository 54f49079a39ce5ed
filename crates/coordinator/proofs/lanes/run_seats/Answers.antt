use Rattle.std.proofs.Common.{rules, ◌≡◌, ℕ, subst, arith, Option, Some, length}
use Rattle.noted_lock.specs.declared.seat.LockSeat.{LockSeat}
use Rattle.noted_lock.specs.Sights.{lock_id}
use Rattle.coordinator.specs.Seats.{IsSeatOfRun, HoldsSeat, IsSlotAt}
use Rattle.coordinator.proofs.Seating.{each_pushed, each_rest, last_at, one_longer, slot_is_full}
use Rattle.coordinator.proofs.lanes.run_seats.Goals as goal

pub out-preserved : goal.out-preserved
out-preserved g c =
    let z = lock_id c.args.lock.now in
    let job = c.args.job.now in
    let inv = c.out.invariant in
    let rest = c.pop.new.self.items in
    let seat = c.in-Some.seat in
    let long = one_longer rest c.out.seats.items seat c.in-Some.ensures.items in
    let more = one_longer c.out.slots.items c.push_reserved.new.self.items (Some seat) c.push_reserved.ensures.items in
    let count = inv.count in
    let is = last_at (IsSeatOfRun z job) rest c.out.seats.items seat (length rest) c.in-Some.ensures.items inv.seats long in record {
      seats = each_rest (IsSeatOfRun z job) rest c.out.seats.items seat c.in-Some.ensures.items inv.seats;
      slots = each_pushed (IsSlotAt z job) c.out.slots.items c.push_reserved.new.self.items (Some seat) c.push_reserved.ensures.items inv.slots
          (λ lane e. subst (λ (n : ℕ). IsSeatOfRun z job n seat) (omega (arith, e, long, count)) is);
      count = omega (arith, long, more, count);
      room = (let held = c.in-Some.ensures.capacity in let room = inv.room in omega (arith, held, room));
      slot_room = (let held = c.push_reserved.ensures.capacity in let room = inv.slot_room in omega (arith, held, room));
    }

pub beside-leave-requires-clause-first : goal.beside-leave-requires-clause-first
beside-leave-requires-clause-first g c κs within =
    let z = lock_id c.args.lock.now in
    let job = c.args.job.now in
    let none_left : length c.out.seats.items ≡ 0 = search rules in
    let rest = c.pop-2.new.self.items in
    let long = one_longer rest c.out.slots.items c.in-Some-pop.slot c.in-Some-pop.ensures.items in
    let count = c.out.invariant.count in
    let holds = last_at (IsSlotAt z job) rest c.out.slots.items c.in-Some-pop.slot (length rest) c.in-Some-pop.ensures.items c.out.invariant.slots long 0 (omega (arith, none_left, long, count)) in
    subst (λ (o : Option LockSeat). HoldsSeat z job 0 o) c.in-Some-slot.is holds

pub beside-leave-requires-clause-slots : goal.beside-leave-requires-clause-slots
beside-leave-requires-clause-slots g c κs within =
    each_rest (IsSlotAt (lock_id c.args.lock.now) c.args.job.now) c.pop-2.new.self.items c.out.slots.items c.in-Some-pop.slot c.in-Some-pop.ensures.items c.out.invariant.slots

pub unreachable-requires-in_default-slot-2 : goal.unreachable-requires-in_default-slot-2
unreachable-requires-in_default-slot-2 g c =
    let z = lock_id c.args.lock.now in
    let job = c.args.job.now in
    let rest = c.pop-in-back.new.self.items in
    let slot = c.in-Some-pop-2.slot in
    let lane = length c.back.seats.items in
    let long = one_longer rest c.back.slots.items slot c.in-Some-pop-2.ensures.items in
    let count = c.back.invariant.count in
    slot_is_full z job lane slot (last_at (IsSlotAt z job) rest c.back.slots.items slot (length rest) c.in-Some-pop-2.ensures.items c.back.invariant.slots long lane (omega (arith, long, count))) c.in_default-slot-2.not-Some

pub back-preserved : goal.back-preserved
back-preserved g c =
    let z = lock_id c.args.lock.now in
    let job = c.args.job.now in
    let inv = c.back.invariant in
    let rest = c.pop-in-back.new.self.items in
    let slot = c.in-Some-pop-2.slot in
    let seat = c.in-Some-slot-2.seat in
    let lane = length c.back.seats.items in
    let long = one_longer rest c.back.slots.items slot c.in-Some-pop-2.ensures.items in
    let more = one_longer c.back.seats.items c.push_reserved-in-Some-pop-2.new.self.items seat c.push_reserved-in-Some-pop-2.ensures.items in
    let count = inv.count in
    let holds = last_at (IsSlotAt z job) rest c.back.slots.items slot (length rest) c.in-Some-pop-2.ensures.items inv.slots long lane (omega (arith, long, count)) in record {
      seats = each_pushed (IsSeatOfRun z job) c.back.seats.items c.push_reserved-in-Some-pop-2.new.self.items seat c.push_reserved-in-Some-pop-2.ensures.items inv.seats (subst (λ (o : Option LockSeat). HoldsSeat z job lane o) c.in-Some-slot-2.is holds);
      slots = each_rest (IsSlotAt z job) rest c.back.slots.items slot c.in-Some-pop-2.ensures.items inv.slots;
      count = omega (arith, long, more, count);
      room = (let held = c.push_reserved-in-Some-pop-2.ensures.capacity in let room = inv.room in omega (arith, held, room));
    }
